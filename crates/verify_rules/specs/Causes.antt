-- What a call is set aside for: a chain that isn't known, or a question that wasn't answered.
use Rattle.std.specs.Prelude.{◌≡◌, ⊤, ◌⊎◌, ℕ, List, Some}
use Rattle.std.specs.List.{slice_get}
use Rattle.stir_outside.specs.Count.{Rose}
use Rattle.verify_rules.specs.Call.{Reading}
use Rattle.verify_rules.specs.Rules.{place}
use Rattle.verify_rules.specs.States.{State, unread}
use Rattle.verify_rules.specs.Verdict.{IsLeftOpen}
use Rattle.verify_rules.specs.declared.refusal.Place.{Place}
use Rattle.verify_rules.specs.declared.verdict.Verdict.{Verdict}
use Rattle.verify_rules.specs.declared.verdict.Verdict.TheVariants.{Passed, Refused, Unread, Unasked}

-- the chain of the PASSporT at some index isn't known
pub record IsUnknownAt (readings : List Reading) (states : List State) (bad : Place) : Type 0 where
  pub at : ℕ
  pub here : Reading
  pub is : slice_get readings at ≡ Some here
  pub chain : slice_get states at ≡ Some unread
  pub stands : bad ≡ place here.mark.field 0

-- a question failed in this call, at the signature of a PASSporT
pub record HasFailed (faults faults_now : ℕ) (bad : Place) : Type 0 where
  pub rose : Rose faults faults_now
  pub part : bad.part ≡ 0

-- unread for a chain that was handed in so; and unasked for a chain that was handed in with a failed question, or for
-- one that failed in this call
abbrev pub IsCaused : List Reading → List State → ℕ → ℕ → Verdict → Type 0
IsCaused readings states faults faults_now Passed = ⊤
IsCaused readings states faults faults_now (Refused refused) = ⊤
IsCaused readings states faults faults_now (Unread bad) = IsUnknownAt readings states bad
IsCaused readings states faults faults_now (Unasked bad) =
    IsLeftOpen readings states bad ⊎ HasFailed faults faults_now bad
