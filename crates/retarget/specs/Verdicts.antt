-- What the rules of the chains say when the gateway answers: of a call that goes on, or for which one of the faults 21
-- to 27 comes, that they hold.
use Rattle.std.specs.Prelude.{◌≡◌, ⊤, ℕ, List, Result, Ok, Err}
use Rattle.cert_store.specs.Rules.{Says}
use Rattle.delegation.specs.Coverage.{Table}
use Rattle.verify_rules.specs.Call.{Call, Reading}
use Rattle.verify_rules.specs.Causes.{IsCaused}
use Rattle.verify_rules.specs.States.{State}
use Rattle.verify_rules.specs.Verdict.{IsVerdict, QuietIs}
use Rattle.verify_rules.specs.World.{AreRight, IsJudgedBy, VerdictOf, World}
use Rattle.verify_rules.specs.declared.verdict.Verdict.{Verdict}
use Rattle.verify_rules.specs.declared.verdict.Verdict.TheVariants.{Passed}
use Rattle.retarget.specs.declared.fault.HopFault.{HopFault}
use Rattle.retarget.specs.declared.fault.HopFault.TheVariants as faults

-- the verdict that an answer tells of: the one that is answered, and else that the call passed
abbrev pub verdict_in : HopFault → Verdict
verdict_in (faults.Verdict verdict) = verdict
verdict_in faults.Target = Passed
verdict_in faults.Loop = Passed
verdict_in faults.Full = Passed
verdict_in faults.Size = Passed
verdict_in faults.Authority = Passed
verdict_in (faults.NoSignature digest) = Passed
verdict_in faults.Provider = Passed
verdict_in faults.Memory = Passed

abbrev pub verdict_of : {X : Type 0} → Result X HopFault → Verdict
verdict_of (Ok out) = Passed
verdict_of (Err fault) = verdict_in fault

-- that the call passed isn't answered as a fault
abbrev pub NamesNoPass : HopFault → Type 0
NamesNoPass (faults.Verdict verdict) = verdict ≡ Passed → ⊥
NamesNoPass faults.Target = ⊤
NamesNoPass faults.Loop = ⊤
NamesNoPass faults.Full = ⊤
NamesNoPass faults.Size = ⊤
NamesNoPass faults.Authority = ⊤
NamesNoPass (faults.NoSignature digest) = ⊤
NamesNoPass faults.Provider = ⊤
NamesNoPass faults.Memory = ⊤

-- what the rules of the chains give over the chains, of PASSporTs judged at this moment by these codes and signatures
pub record IsFinished (says : Says) (table : Table) (moment : ℕ) (readings : List Reading) (states : List State)
    (faults_before faults_now : ℕ) (verdict : Verdict) : Type 0 where
  -- exactly
  pub is : IsVerdict says table moment readings states faults_before faults_now verdict
  -- if the chains are right in a world that judges the call, so is the verdict
  pub right : (world : World) (call : Call) → IsJudgedBy world call table says moment readings
      → AreRight world readings states → VerdictOf world call verdict
  -- it is left open by a chain that was handed in, or by a question that failed
  pub cause : IsCaused readings states faults_before faults_now verdict
  pub quiet : QuietIs readings states faults_before faults_now verdict

-- a fault that comes only after the call passed
pub record IsAfterVerdict (fault : HopFault) : Type 0 where
  pub passed : verdict_in fault ≡ Passed
  pub no_pass : NamesNoPass fault
