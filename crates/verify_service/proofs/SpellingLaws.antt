-- The line of a call in the report, as it is written.
use Rattle.std.proofs.Common.{◌≡◌, ℕ, List, [], ◌∷◌, ◌++◌, codes, refl, append_assoc}
use Rattle.std.specs.Fmt.{decimal}
use Rattle.call_judging.specs.PlaceText.{place_text}
use Rattle.verify_rules.specs.Code.{code_of}
use Rattle.verify_rules.specs.declared.refusal.Place.{Place}
use Rattle.verify_rules.specs.declared.refusal.Refusal.{Refusal}
use Rattle.verify_service.specs.Report.{refused_text, report_text, said_text, unasked_rule, unasked_text}
use Rattle.verify_service.specs.declared.outcome.Outcome.{Outcome}

pub number_spelled : (text before : List ℕ) (number : ℕ) → (text ++ before) ++ decimal number ≡ text ++ (before ++ decimal number)
number_spelled text before number = append_assoc text before (decimal number)

pub place_spelled : (text before : List ℕ) (place : Place) → (text ++ (before ++ decimal place.field)) ++ (codes "." ++ decimal place.part) ≡ text ++ (before ++ place_text place)
place_spelled text before place = simp append_assoc refl

pub unasked_spelled : (text : List ℕ) (place : Place)
    → (text ++ (codes "unasked - " ++ decimal (unasked_rule place.part))) ++ (codes " " ++ place_text place) ≡ text ++ unasked_text place
unasked_spelled text place = simp append_assoc refl

pub refused_spelled : (text : List ℕ) (refused : Refusal)
    → ((text ++ (codes "refused " ++ decimal (code_of refused.rule))) ++ (codes " " ++ decimal refused.rule)) ++ (codes " " ++ place_text refused.place)
    ≡ text ++ refused_text refused
refused_spelled text refused = simp append_assoc refl

pub line_spelled : (text : List ℕ) (number : ℕ) (outcome : Outcome)
    → (((text ++ decimal number) ++ 32 ∷ []) ++ said_text outcome) ++ 10 ∷ [] ≡ text ++ report_text number outcome
unfolding report_text
line_spelled text number outcome = simp append_assoc refl
