-- A fault that comes after the verdict is none.
use Rattle.std.proofs.Common.{ℕ, Result, Ok, Err, IfErr}
use Rattle.retarget.specs.Asking.{AsksNoMore}
use Rattle.retarget.specs.Verdicts.{IsAfterVerdict}
use Rattle.retarget.specs.declared.fault.HopFault.{HopFault}
use Rattle.retarget.specs.declared.fault.HopFault.TheVariants as faults

after_fault : (judged before now : ℕ) (fault : HopFault) → IsAfterVerdict fault → AsksNoMore judged before now fault
after_fault judged before now (faults.Verdict verdict) a = absurd (a.no_pass a.passed)
after_fault judged before now faults.Target a = tt
after_fault judged before now faults.Loop a = tt
after_fault judged before now faults.Full a = tt
after_fault judged before now faults.Size a = tt
after_fault judged before now faults.Authority a = tt
after_fault judged before now (faults.NoSignature digest) a = tt
after_fault judged before now faults.Provider a = tt
after_fault judged before now faults.Memory a = tt

pub after_passed : {X : Type 0} (judged before now : ℕ) (result : Result X HopFault) → IfErr result IsAfterVerdict → IfErr result (AsksNoMore judged before now)
after_passed judged before now (Ok x) a = tt
after_passed judged before now (Err fault) a = after_fault judged before now fault a
