-- The status of a whole report is 0 exactly if each call is valid.
use Rattle.std.proofs.Common.{◌≡◌, Bool, true, false, ◌&&◌, List, [], ◌∷◌, refl, ap, ◌∙◌, arith}
use Rattle.log_rounds.specs.AllValid.{AreValid, all_valid}
use Rattle.verify_service.specs.Adding.{is_valid}
use Rattle.log_run.specs.Ending.{report_status}
use Rattle.verify_service.specs.declared.outcome.Outcome.{Outcome}
use Rattle.verify_service.specs.declared.outcome.Outcome.TheVariants.{Valid, Refused, Replay, Unread, Unasked}

all_by : (outcomes : List Outcome) → all_valid outcomes ≡ true → AreValid outcomes
all_by [] all = tt
all_by (Valid ∷ others) all = (refl, all_by others all)
all_by (Refused refused ∷ others) all = absurd (cc)
all_by (Replay winner ∷ others) all = absurd (cc)
all_by (Unread bad ∷ others) all = absurd (cc)
all_by (Unasked bad ∷ others) all = absurd (cc)

good_by : (good : Bool) → report_status good ≡ 0 → good ≡ true
good_by true zero = refl
good_by false one = absurd (omega (arith, one))

pub all_are : (outcomes : List Outcome) → report_status (all_valid outcomes) ≡ 0 → AreValid outcomes
all_are outcomes zero = all_by outcomes (good_by (all_valid outcomes) zero)

all_true : (outcomes : List Outcome) → AreValid outcomes → all_valid outcomes ≡ true
all_true [] are = refl
all_true (first ∷ others) are = ap (λ (o : Outcome). is_valid o && all_valid others) are.0 ∙ all_true others are.1

pub status_zero : (outcomes : List Outcome) → AreValid outcomes → report_status (all_valid outcomes) ≡ 0
status_zero outcomes are = ap report_status (all_true outcomes are)

one_by : (good : Bool) → (good ≡ true → ⊥) → report_status good ≡ 1
one_by true bad = absurd (bad refl)
one_by false bad = refl

pub status_one : (outcomes : List Outcome) → (AreValid outcomes → ⊥) → report_status (all_valid outcomes) ≡ 1
status_one outcomes bad = one_by (all_valid outcomes) (λ all. bad (all_by outcomes all))
