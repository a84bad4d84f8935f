-- What the gateway promises of a call that goes on, and of one that doesn't, by a provider that never fails.
use Rattle.std.specs.Prelude.{ℕ, List, Option, Result, Ok, Err}
use Rattle.retarget.specs.NextHop.{BreaksNone}
use Rattle.retarget.specs.Outcome.{IsRetargeted, TellsOfDiversion}
use Rattle.retarget.specs.Promise.{CausedOnward, GivesOnward}
use Rattle.retarget.specs.Verdicts.{IsFinished, NamesNoPass, verdict_in}
use Rattle.retarget.specs.declared.fault.HopFault.{HopFault}
use Rattle.verify_rules.specs.declared.verdict.Verdict.{Verdict}
use Rattle.verify_rules.specs.declared.verdict.Verdict.TheVariants.{Passed}
use Rattle.open_calls.specs.Going.{Going}

-- the rules of the chains come to this verdict
abbrev pub Comes : Going → Verdict → Type 0
Comes going verdict = IsFinished going.says going.holder.table going.moment going.readings going.states 0 0 verdict

-- the bytes that go on, or the fault, are exactly these
abbrev pub Gives : Going → (List ℕ → List ℕ → Option (List ℕ)) → Result (List ℕ) HopFault → Type 0
Gives going signs result =
    GivesOnward {X = List ℕ} (λ (out : List ℕ). out) going.bytes going.readings going.hop going.holder signs result

-- The call passed. What goes on is the message with the other request URI and one more Identity field. At the next hop
-- it breaks none of the rules of the call and the chains, if the conditions hold, and its last PASSporT tells of the
-- diversion.
pub record IsOnward (going : Going) (signs : List ℕ → List ℕ → Option (List ℕ)) (out : List ℕ) : Type 0 where
  pub passed : Comes going Passed
  pub exact : Gives going signs (Ok out)
  pub written : IsRetargeted going.bytes going.readings going.hop going.holder signs out
  pub next : BreaksNone out going.hop going.holder going.says going.readings going.states
  pub link : TellsOfDiversion going.bytes going.readings going.hop out

-- The call didn't pass, and this is the verdict; or it passed, and this fault has its cause.
pub record IsHeld (going : Going) (signs : List ℕ → List ℕ → Option (List ℕ)) (fault : HopFault) : Type 0 where
  pub verdict : Comes going (verdict_in fault)
  pub no_pass : NamesNoPass fault
  pub exact : Gives going signs (Err fault)
  pub cause : CausedOnward going.bytes going.readings going.hop going.holder signs fault
