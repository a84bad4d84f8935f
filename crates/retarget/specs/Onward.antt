-- Whether a call may go on to a number (RFC 8946, section 4.2; RFC 3261, section 16.3, item 4; the limits are this
-- project's own).
use Rattle.std.specs.Prelude.{◌≡◌, ◌⊎◌, ℕ, ◌≤◌, Bool, true, ◌||◌, nat_le, List, [], ◌∷◌, length, drop, Option, Some}
use Rattle.std.specs.Prelude.{None, Result, Ok, Err, if◌then◌else◌}
use Rattle.std.specs.List.{list_any, slice_get}
use Rattle.std.specs.Str.{bytes_eq}
use Rattle.sip_message.specs.Accessors.{identities}
use Rattle.sip_message.specs.Address.{uri_number}
use Rattle.sip_message.specs.Head.{Head}
use Rattle.sip_message.specs.HeadAlphabet.{is_target}
use Rattle.sip_message.specs.Message.{MessageView}
use Rattle.passport_claims.specs.Links.{dest_of, div_of}
use Rattle.verify_rules.specs.Call.{Reading, called_by, facts_of}
use Rattle.retarget.specs.Hop.{HopView, next_number}
use Rattle.retarget.specs.declared.fault.HopFault.{HopFault}
use Rattle.retarget.specs.declared.fault.HopFault.TheVariants as faults

-- the diversions of a call, in the order in which it went: its PASSporTs without the originating one
abbrev pub links_of : List Reading → List Reading
links_of readings = drop 1 readings

-- ---- where it has been

-- a diversion led to this number
abbrev pub is_at : List ℕ → Reading → Bool
is_at number link = bytes_eq (dest_of link.passport) number

-- by its diversions, and if it has none by the number that is called
abbrev pub has_been_at : List ℕ → List ℕ → List Reading → Bool
has_been_at earlier number [] = bytes_eq earlier number
has_been_at earlier number (first ∷ later) =
    bytes_eq (div_of first.passport) number || list_any (is_at number) (first ∷ later)

-- in words: a call without diversions is at the number that is called; one with diversions has been where the first
-- came from, and where each led
pub data HasBeenAt (earlier number : List ℕ) (links : List Reading) : Type 0 where
  undiverted : links ≡ [] → earlier ≡ number → HasBeenAt earlier number links
  start : (first : Reading) → slice_get links 0 ≡ Some first → div_of first.passport ≡ number
      → HasBeenAt earlier number links
  led : (at : ℕ) (link : Reading) → slice_get links at ≡ Some link → dest_of link.passport ≡ number
      → HasBeenAt earlier number links

-- ---- whether there is room

-- 16 Identity fields, or 8 diversions after the originating PASSporT
abbrev pub is_full : MessageView → List Reading → Bool
is_full message readings = nat_le 16 (length (identities message)) || nat_le 9 (length readings)

abbrev pub IsFull : MessageView → List Reading → Type 0
IsFull message readings = (16 ≤ length (identities message)) ⊎ (8 ≤ length (links_of readings))

-- ---- the number, or why there is none

abbrev pub unless_been : MessageView → List ℕ → List Reading → List ℕ → Result (List ℕ) HopFault
unless_been message earlier readings number = if has_been_at earlier number (links_of readings) then Err faults.Loop
    else if is_full message readings then Err faults.Full else Ok number

abbrev pub onward_to : MessageView → List ℕ → List Reading → Option (List ℕ) → Result (List ℕ) HopFault
onward_to message earlier readings None = Err faults.Target
onward_to message earlier readings (Some number) = unless_been message earlier readings number

-- the number to which the call goes on, or the first of the faults Target, Loop and Full
unfoldable pub onward : MessageView → List ℕ → List Reading → HopView → Result (List ℕ) HopFault
onward message earlier readings hop = onward_to message earlier readings (next_number hop)

-- ---- in words

-- the bytes are this message, and this number is called: To's if the call has no diversions, else that of the request
-- URI
pub record IsCalledBefore (bytes : List ℕ) (readings : List Reading) (hop : HopView) (message : MessageView)
    (earlier : List ℕ) : Type 0 where
  pub head : Head bytes message
  pub called : called_by (facts_of hop.local message) (links_of readings) ≡ Some earlier

-- the target can be written in a start line, and this is its number
pub record LeadsTo (hop : HopView) (number : List ℕ) : Type 0 where
  pub uri : is_target hop.target ≡ true
  pub gives : uri_number hop.target hop.local ≡ Some number

-- it does, the call hasn't been there, and there is room
pub record GoesOnTo (message : MessageView) (earlier : List ℕ) (readings : List Reading) (hop : HopView)
    (number : List ℕ) : Type 0 where
  pub leads : LeadsTo hop number
  pub new : HasBeenAt earlier number (links_of readings) → ⊥
  pub room : IsFull message readings → ⊥
