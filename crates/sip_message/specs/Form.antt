-- The first fault of bytes that are no message, and its place (this project's own numbers and order).
use Rattle.std.specs.Prelude.{◌≡◌, ℕ, ◌<◌, ◌≤◌, Bool, true, List, [], ◌∷◌, length, filter, Option, Some, None}
use Rattle.sip_message.specs.declared.fault.FormFault.{FormFault}
use Rattle.sip_message.specs.FieldLine.{IsFieldLine}
use Rattle.sip_message.specs.Group.{Begins, Group}
use Rattle.sip_message.specs.Head.{HasOne}
use Rattle.sip_message.specs.Lines.{LineView, is_continuation, lines_of}
use Rattle.sip_message.specs.Names.{is_from, is_to}
use Rattle.sip_message.specs.Reading.{fault}
use Rattle.sip_message.specs.StartLine.{IsStartLine}

-- a line that is neither empty nor a field line nor, after a group, a continuation
pub record IsBadLine (groups : List Group) (text : List ℕ) : Type 0 where
  pub some : text ≡ [] → ⊥
  pub no_field : (name rest : List ℕ) → IsFieldLine text name rest → ⊥
  pub no_continuation : is_continuation text ≡ true → groups ≡ []

-- the place at which groups that should be one aren't: at the second, or at the end of the head if there is none
abbrev pub place_of_surplus : ℕ → List Group → Option ℕ
place_of_surplus end [] = Some end
place_of_surplus end (one ∷ []) = None
place_of_surplus end (one ∷ second ∷ others) = Some second.first.place

abbrev pub IsSurplusAt : (List ℕ → Bool) → ℕ → List Group → ℕ → Type 0
IsSurplusAt test end groups place =
    place_of_surplus end (filter (λ (group : Group). test group.name) groups) ≡ Some place

-- the faults in the order in which they are tried
pub data FormOf (bytes : List ℕ) (found : FormFault) : Type 0 where
  -- 1: more than 65,535 bytes
  size : 65535 < length bytes → found ≡ fault 1 65535 → FormOf bytes found
  -- 2: the first line is no start line
  start_line : length bytes ≤ 65535 → (first : LineView) (others : List LineView) → lines_of bytes ≡ first ∷ others
      → ((method uri : List ℕ) → IsStartLine first.text method uri → ⊥) → found ≡ fault 2 0 → FormOf bytes found
  -- 3: the first line after the groups is a bad one
  header_line : (method uri : List ℕ) (groups : List Group) (bad : LineView) (behind : List LineView)
      → Begins bytes method uri groups (bad ∷ behind) → IsBadLine groups bad.text
      → found ≡ fault 3 bad.place → FormOf bytes found
  -- 4: no empty line, in bytes without a line or after the groups
  no_line : length bytes ≤ 65535 → lines_of bytes ≡ [] → found ≡ fault 4 (length bytes) → FormOf bytes found
  no_end : (method uri : List ℕ) (groups : List Group) → Begins bytes method uri groups []
      → found ≡ fault 4 (length bytes) → FormOf bytes found
  -- 5: not exactly one From
  from : (method uri : List ℕ) (groups : List Group) (empty : LineView) (body : List LineView)
      → Begins bytes method uri groups (empty ∷ body) → empty.text ≡ [] → (place : ℕ)
      → IsSurplusAt is_from empty.place groups place → found ≡ fault 5 place → FormOf bytes found
  -- 6: one From, and not exactly one To
  to : (method uri : List ℕ) (groups : List Group) (empty : LineView) (body : List LineView)
      → Begins bytes method uri groups (empty ∷ body) → empty.text ≡ [] → HasOne is_from groups → (place : ℕ)
      → IsSurplusAt is_to empty.place groups place → found ≡ fault 6 place → FormOf bytes found
