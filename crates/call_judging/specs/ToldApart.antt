-- The lines that explain a call, word by word, and what is told apart by them (this project's own format).
use Rattle.std.specs.Prelude.{◌≡◌, ⊤, ℕ, ◌<◌, List, [], ◌∷◌, ◌++◌, codes}
use Rattle.std.specs.Fmt.{decimal}
use Rattle.std.specs.List.{join_with_byte}
use Rattle.verify_rules.specs.Code.{HasCode}
use Rattle.verify_rules.specs.declared.refusal.Refusal.{Refusal}
use Rattle.call_judging.specs.PlaceText.{PlaceFits}
use Rattle.call_judging.specs.declared.finding.Finding.{Finding}
use Rattle.call_judging.specs.declared.finding.Finding.TheVariants.{Refused, Unread, Unasked, Passes}

-- ---- the words of a line

-- words with one blank between each two, and LF after the last
abbrev pub line_of : List (List ℕ) → List ℕ
line_of words = join_with_byte 32 words ++ codes "\n"

-- the call's number, the rule's, its response code, and the place
pub record IsBrokenLine (number : ℕ) (refused : Refusal) (line : List ℕ) : Type 0 where
  pub code : ℕ
  pub has_code : HasCode refused.rule code
  pub line_is : line ≡ line_of (decimal number ∷ decimal refused.rule ∷ decimal code
      ∷ join_with_byte 46 (decimal refused.place.field ∷ decimal refused.place.part ∷ []) ∷ [])

-- ---- what can be read back

-- the numbers are below 2 to the power of 32
abbrev pub FindingFits : Finding → Type 0
FindingFits (Refused refused) = (refused.rule < 256) × PlaceFits refused.place
FindingFits (Unread bad) = PlaceFits bad
FindingFits (Unasked bad) = ⊤
FindingFits (Passes pass) = ⊤

-- The rule and the place where it is broken, and the place where a file couldn't be read. Of an unasked call is told
-- only that the rules before the first that asks for a signature hold, and of one that passes that all do.
abbrev pub AreToldAlike : Finding → Finding → Type 0
AreToldAlike (Refused a) (Refused b) = a ≡ b
AreToldAlike (Refused a) (Unread b) = ⊥
AreToldAlike (Refused a) (Unasked b) = ⊥
AreToldAlike (Refused a) (Passes b) = ⊥
AreToldAlike (Unread a) (Refused b) = ⊥
AreToldAlike (Unread a) (Unread b) = a ≡ b
AreToldAlike (Unread a) (Unasked b) = ⊥
AreToldAlike (Unread a) (Passes b) = ⊥
AreToldAlike (Unasked a) (Refused b) = ⊥
AreToldAlike (Unasked a) (Unread b) = ⊥
AreToldAlike (Unasked a) (Unasked b) = ⊤
AreToldAlike (Unasked a) (Passes b) = ⊥
AreToldAlike (Passes a) (Refused b) = ⊥
AreToldAlike (Passes a) (Unread b) = ⊥
AreToldAlike (Passes a) (Unasked b) = ⊥
AreToldAlike (Passes a) (Passes b) = ⊤
