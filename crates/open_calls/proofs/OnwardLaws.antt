-- What the gateway answers by a provider that never fails, over chains that leave nothing open.
use Rattle.std.proofs.Common.{◌≡◌, true, List, refl}
use Rattle.std.specs.List.{list_all}
use Rattle.stir_outside.proofs.CountLaws.{never_rose}
use Rattle.stir_outside.specs.Count.{Rose}
use Rattle.open_calls.proofs.JudgingLaws.{decided}
use Rattle.open_calls.specs.Founds.{IsDecided}
use Rattle.open_calls.specs.OpenChains.{is_known}
use Rattle.retarget.specs.Answer.{is_provider}
use Rattle.retarget.specs.Verdicts.{NamesNoPass, verdict_in}
use Rattle.retarget.specs.declared.fault.HopFault.{HopFault}
use Rattle.retarget.specs.declared.fault.HopFault.TheVariants as faults
use Rattle.verify_rules.specs.Call.{Reading}
use Rattle.verify_rules.specs.Causes.{IsCaused}
use Rattle.verify_rules.specs.States.{State}
use Rattle.verify_rules.specs.declared.verdict.Verdict.{Verdict}
use Rattle.verify_rules.specs.declared.verdict.Verdict.TheVariants as verdicts
use Rattle.open_calls.specs.Unmoved.{IsNamed, IsVerdictNamed}

-- ---- nothing is left open

named_if : (verdict : Verdict) → IsDecided verdict → (verdict ≡ verdicts.Passed → ⊥) → IsVerdictNamed verdict
named_if verdicts.Passed decided no_pass = no_pass refl
named_if (verdicts.Refused refused) decided no_pass = tt
named_if (verdicts.Unread bad) decided no_pass = decided
named_if (verdicts.Unasked bad) decided no_pass = decided

-- no failure of the provider is named
pub named : (readings : List Reading) (states : List State) (fault : HopFault) → list_all is_known states ≡ true → IsCaused readings states 0 0 (verdict_in fault)
    → NamesNoPass fault → (is_provider fault ≡ true → Rose 0 0) → IsNamed fault
named readings states (faults.Verdict verdict) known caused no_pass failed = named_if verdict (decided readings states 0 0 verdict known refl refl caused) no_pass
named readings states faults.Target known caused no_pass failed = tt
named readings states faults.Loop known caused no_pass failed = tt
named readings states faults.Full known caused no_pass failed = tt
named readings states faults.Size known caused no_pass failed = tt
named readings states faults.Authority known caused no_pass failed = tt
named readings states (faults.NoSignature digest) known caused no_pass failed = tt
named readings states faults.Provider known caused no_pass failed = never_rose (failed refl)
named readings states faults.Memory known caused no_pass failed = tt
