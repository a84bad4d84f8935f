-- The lines of the report, word by word (this project's own format), and what is told apart by them.
use Rattle.std.specs.Prelude.{◌≡◌, ⊤, ◌⊎◌, ℕ, ◌<◌, ◌≤◌, List, [], ◌∷◌, ◌++◌, codes}
use Rattle.std.specs.Fmt.{decimal}
use Rattle.std.specs.List.{join_with_byte}
use Rattle.verify_rules.specs.Code.{HasCode}
use Rattle.verify_rules.specs.declared.refusal.Place.{Place}
use Rattle.call_judging.specs.PlaceText.{PlaceFits}
use Rattle.verify_service.specs.declared.outcome.Outcome.{Outcome}
use Rattle.verify_service.specs.declared.outcome.Outcome.TheVariants.{Valid, Refused, Replay, Unread, Unasked}

-- ---- the words of a line

-- `FIELD.PART`
abbrev pub IsPlaceWord : Place → List ℕ → Type 0
IsPlaceWord bad word = word ≡ join_with_byte 46 (decimal bad.field ∷ decimal bad.part ∷ [])

-- a failed question for a signature leaves rule 16 open at part 0, where the PASSporT's own is asked for, and else rule
-- 15
abbrev pub IsOpenRule : ℕ → ℕ → Type 0
IsOpenRule part rule = ((part ≡ 0) × (rule ≡ 16)) ⊎ ((1 ≤ part) × (rule ≡ 15))

pub record IsRefusedRow (rule : ℕ) (bad : Place) (words : List (List ℕ)) : Type 0 where
  pub code : ℕ
  pub place : List ℕ
  pub has_code : HasCode rule code
  pub at : IsPlaceWord bad place
  pub words_are : words ≡ codes "refused" ∷ decimal code ∷ decimal rule ∷ place ∷ []

pub record IsUnreadRow (bad : Place) (words : List (List ℕ)) : Type 0 where
  pub place : List ℕ
  pub at : IsPlaceWord bad place
  pub words_are : words ≡ codes "unread" ∷ codes "-" ∷ codes "10" ∷ place ∷ []

pub record IsUnaskedRow (bad : Place) (words : List (List ℕ)) : Type 0 where
  pub rule : ℕ
  pub place : List ℕ
  pub open_rule : IsOpenRule bad.part rule
  pub at : IsPlaceWord bad place
  pub words_are : words ≡ codes "unasked" ∷ codes "-" ∷ decimal rule ∷ place ∷ []

-- what came of the call, the response code, the rule, and the place or the call that is replayed; `-` if there is none
abbrev pub IsRow : Outcome → List (List ℕ) → Type 0
IsRow Valid words = words ≡ codes "valid" ∷ codes "-" ∷ codes "-" ∷ codes "-" ∷ []
IsRow (Refused refused) words = IsRefusedRow refused.rule refused.place words
IsRow (Replay winner) words = words ≡ codes "replay" ∷ codes "438" ∷ codes "18" ∷ decimal winner ∷ []
IsRow (Unread bad) words = IsUnreadRow bad words
IsRow (Unasked bad) words = IsUnaskedRow bad words

-- the call's number and these four words, with one blank between each two, and LF after the last
pub record IsLine (number : ℕ) (outcome : Outcome) (line : List ℕ) : Type 0 where
  pub words : List (List ℕ)
  pub row : IsRow outcome words
  pub line_is : line ≡ join_with_byte 32 (decimal number ∷ words) ++ codes "\n"

-- ---- what can be read back

-- the numbers are below 2 to the power of 32
abbrev pub Fits : Outcome → Type 0
Fits Valid = ⊤
Fits (Refused refused) = (refused.rule < 256) × PlaceFits refused.place
Fits (Replay winner) = winner < 4294967296
Fits (Unread bad) = PlaceFits bad
Fits (Unasked bad) = PlaceFits bad

abbrev pub AllFit : List Outcome → Type 0
AllFit [] = ⊤
AllFit (outcome ∷ others) = Fits outcome × AllFit others
