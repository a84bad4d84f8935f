-- What is promised of the answer, from what each step says.
use Rattle.std.proofs.Common.{◌≡◌, ℕ, ◌≤◌, true, false, List, length, Option, Some, None, Result, Ok, Err, IfOk, refl, sym, ◌∙◌, ap, subst, arith}
use Rattle.std.specs.Prelude.{IfErr}
use Rattle.lists.specs.Given.{Gives, IsFaultOf}
use Rattle.cert_store.specs.Rules.{Says}
use Rattle.stir_outside.specs.declared.provider.Provider.{Ghosts as ProviderOf}
use Rattle.sip_message.specs.Message.{MessageView}
use Rattle.sip_message.specs.Reading.{read}
use Rattle.sip_message.specs.declared.fault.FormFault.{FormFault}
use Rattle.verify_rules.specs.Call.{Call, Reading, called_by, facts_of}
use Rattle.verify_rules.specs.Screened.{ScreenedView}
use Rattle.verify_rules.specs.States.{State}
use Rattle.verify_rules.specs.World.{AreRight, First, IsJudgedBy, World}
use Rattle.auth_service.specs.Order.{HolderView}
use Rattle.retarget.specs.Answer.{decided, is_provider}
use Rattle.retarget.specs.Asking.{IsAskedOnce}
use Rattle.retarget.specs.Below.{Below}
use Rattle.retarget.specs.Causes.{IsCaused, IsWithheld}
use Rattle.retarget.specs.Hop.{HopView}
use Rattle.retarget.specs.NextHop.{BreaksNone}
use Rattle.retarget.specs.Onward.{GoesOnTo, IsCalledBefore, links_of, onward}
use Rattle.retarget.specs.Outcome.{IsRetargeted, TellsOfDiversion}
use Rattle.retarget.specs.Promise.{CausedOnward, GivesOnward, MayNotSign, OfCall}
use Rattle.retarget.specs.Screened.{IsScreenedFor}
use Rattle.retarget.specs.Written.{CannotSign, IsWritten, Why, if_onward, retargeted, written_to}
use Rattle.retarget.specs.declared.fault.HopFault.{HopFault}
use Rattle.retarget.specs.declared.fault.HopFault.TheVariants as faults
use Rattle.retarget.proofs.CallLaws.{calls_from, is_an_invite, ordered, stands}
use Rattle.retarget.proofs.CauseLaws.{Known, caused, held}
use Rattle.retarget.proofs.NextLaws.{adds_diversion, breaks_none, goes_of}
use Rattle.retarget.proofs.OnwardLaws.{IsStopped, answers}

abbrev Signs : Type 0
Signs = List ℕ → List ℕ → Option (List ℕ)

-- ---- the call that was read

-- its message, and the number that is called
pub record IsRead (bytes : List ℕ) (readings : List Reading) (hop : HopView) (message : MessageView) (earlier : List ℕ) : Type 0 where
  pub is_read : read bytes ≡ Ok message
  pub called : called_by (facts_of hop.local message) (links_of readings) ≡ Some earlier
  pub some : 1 ≤ length readings

before : Below → (bytes : List ℕ) (readings : List Reading) (hop : HopView) (message : MessageView) (earlier : List ℕ) → IsRead bytes readings hop message earlier
    → IsCalledBefore bytes readings hop message earlier
before laws bytes readings hop message earlier i = record { head = (laws.head bytes message).0 i.is_read; called = i.called }

-- what is said of it is said of each that the bytes are
of_call : Below → (bytes : List ℕ) (readings : List Reading) (hop : HopView) (message : MessageView) (earlier : List ℕ) → IsRead bytes readings hop message earlier
    → (P : MessageView → List ℕ → Type 0) → P message earlier → OfCall bytes readings hop P
of_call laws bytes readings hop message earlier i P p other number b =
    let both : ◌≡◌ {A = Result MessageView FormFault} (Ok message) (Ok other) = sym i.is_read ∙ (laws.head bytes other).1 b.head in
    let same : message ≡ other = cc in
    let called : ◌≡◌ {A = Option (List ℕ)} (Some earlier) (Some number) =
    sym i.called ∙ ap (λ (m : MessageView). called_by (facts_of hop.local m) (links_of readings)) same ∙ b.called in
    let one : earlier ≡ number = cc in
    subst (λ (m : MessageView). P m number) same (subst (P message) one p)

known : Below → (bytes : List ℕ) (moment : ℕ) (screened : ScreenedView) (hop : HopView) (message : MessageView) (earlier number : List ℕ) → IsScreenedFor bytes moment hop.local screened
    → IsRead bytes screened.readings hop message earlier → GoesOnTo message earlier screened.readings hop number → Known bytes message earlier screened.readings hop
known laws bytes moment screened hop message earlier number s i g =
    let st = stands bytes moment hop.local screened s message i.is_read in
    let o = ordered laws.order message hop.local screened.readings s.settings moment st i.some in
    record {
      is_read = i.is_read;
      invite = is_an_invite message hop.local screened.readings s.settings moment st;
      orig = o.origin.passport.orig;
      calling = calls_from message hop.local screened.readings s.settings moment st o;
      number = number;
      onward = g;
    }

-- ---- it goes on

pub goes : (bytes : List ℕ) (readings : List Reading) (hop : HopView) (message : MessageView) (earlier number : List ℕ) → IsRead bytes readings hop message earlier
    → Ok number ≡ onward message earlier readings hop → GoesOnTo message earlier readings hop number
goes bytes readings hop message earlier number i e = answers bytes message earlier readings hop (Ok number) i.some e

retargeted_ok : (bytes : List ℕ) (message : MessageView) (earlier number : List ℕ) (readings : List Reading) (hop : HopView) (holder : HolderView) (signs : Signs)
    → Ok number ≡ onward message earlier readings hop → written_to bytes earlier hop holder signs ≡ retargeted bytes message earlier readings hop holder signs
unfolding retargeted
retargeted_ok bytes message earlier number readings hop holder signs e = ap (λ r. if_onward r (written_to bytes earlier hop holder signs)) e

pub exact_ok : {X : Type 0} (seen : X → List ℕ) (result : Result X HopFault) → Below → (bytes : List ℕ) (readings : List Reading) (hop : HopView) (holder : HolderView) (signs : Signs) (message : MessageView) (earlier number : List ℕ)
    → IsRead bytes readings hop message earlier → Ok number ≡ onward message earlier readings hop → Gives decided seen result (written_to bytes earlier hop holder signs)
    → GivesOnward seen bytes readings hop holder signs result
exact_ok seen result laws bytes readings hop holder signs message earlier number i e h =
    of_call laws bytes readings hop message earlier i (λ m n. Gives decided seen result (retargeted bytes m n readings hop holder signs))
    (subst (λ r. Gives decided seen result r) (retargeted_ok bytes message earlier number readings hop holder signs e) h)

pub written_ok : {X : Type 0} (seen : X → List ℕ) (result : Result X HopFault) → Below → (bytes : List ℕ) (readings : List Reading) (hop : HopView) (holder : HolderView) (signs : Signs) (message : MessageView) (earlier number : List ℕ)
    → IsRead bytes readings hop message earlier → Ok number ≡ onward message earlier readings hop → IfOk result (λ out. IsWritten bytes earlier hop holder signs (seen out))
    → IfOk result (λ out. IsRetargeted bytes readings hop holder signs (seen out))
written_ok seen (Ok out) laws bytes readings hop holder signs message earlier number i e h = record {
  message = message;
  earlier = earlier;
  before = before laws bytes readings hop message earlier i;
  number = number;
  onward = goes bytes readings hop message earlier number i e;
  written = h;
}
written_ok seen (Err fault) laws bytes readings hop holder signs message earlier number i e h = tt

pub causes_ok : {X : Type 0} (result : Result X HopFault) → Below → (bytes : List ℕ) (moment : ℕ) (screened : ScreenedView) (hop : HopView) (holder : HolderView) (signs : Signs) (message : MessageView) (earlier number : List ℕ)
    → IsScreenedFor bytes moment hop.local screened → IsRead bytes screened.readings hop message earlier → Ok number ≡ onward message earlier screened.readings hop
    → IfErr result (λ fault. Why bytes earlier hop holder signs fault) → IfErr result (λ fault. CausedOnward bytes screened.readings hop holder signs fault)
causes_ok (Ok out) laws bytes moment screened hop holder signs message earlier number s i e h = tt
causes_ok (Err fault) laws bytes moment screened hop holder signs message earlier number s i e h =
    of_call laws bytes screened.readings hop message earlier i (λ m n. IsCaused bytes m n screened.readings hop holder signs fault)
    (caused laws bytes message earlier screened.readings hop holder signs fault
    (known laws bytes moment screened hop message earlier number s i (goes bytes screened.readings hop message earlier number i e)) h)

abbrev Withheld : List ℕ → List Reading → HopView → HolderView → MessageView → List ℕ → Type 0
Withheld bytes readings hop holder message earlier = IsWithheld bytes message earlier readings hop holder

-- nothing may be signed, and so nothing is
pub cannot_sign : Below → (bytes : List ℕ) (moment : ℕ) (screened : ScreenedView) (hop : HopView) (holder : HolderView) (message : MessageView) (earlier number : List ℕ)
    → IsScreenedFor bytes moment hop.local screened → IsRead bytes screened.readings hop message earlier → Ok number ≡ onward message earlier screened.readings hop
    → MayNotSign bytes screened.readings hop holder → CannotSign bytes earlier hop holder
cannot_sign laws bytes moment screened hop holder message earlier number s i e (other, other_earlier, b, w) =
    let k = known laws bytes moment screened hop message earlier number s i (goes bytes screened.readings hop message earlier number i e) in
    let back = of_call laws bytes screened.readings hop message earlier i
    (λ m n. (Withheld bytes screened.readings hop holder m n → Withheld bytes screened.readings hop holder message earlier)) (λ h. h) in
    held laws bytes message earlier screened.readings hop holder k (back other other_earlier b w)

-- ---- it doesn't

pub stopped : (bytes : List ℕ) (readings : List Reading) (hop : HopView) (message : MessageView) (earlier : List ℕ) (fault : HopFault) → IsRead bytes readings hop message earlier
    → Err fault ≡ onward message earlier readings hop → IsStopped bytes message earlier readings hop fault
stopped bytes readings hop message earlier fault i e = answers bytes message earlier readings hop (Err fault) i.some e

fault_as : (fault : HopFault) (given : Result (List ℕ) HopFault) → given ≡ Err fault → IsFaultOf (decided fault) given
fault_as (faults.Verdict verdict) given h = tt
fault_as faults.Target given h = h
fault_as faults.Loop given h = h
fault_as faults.Full given h = h
fault_as faults.Size given h = h
fault_as faults.Authority given h = h
fault_as (faults.NoSignature digest) given h = h
fault_as faults.Provider given h = tt
fault_as faults.Memory given h = tt

retargeted_err : (bytes : List ℕ) (message : MessageView) (earlier : List ℕ) (readings : List Reading) (hop : HopView) (holder : HolderView) (signs : Signs) (fault : HopFault)
    → Err fault ≡ onward message earlier readings hop → retargeted bytes message earlier readings hop holder signs ≡ Err fault
unfolding retargeted
retargeted_err bytes message earlier readings hop holder signs fault e = ap (λ r. if_onward r (written_to bytes earlier hop holder signs)) (sym e)

pub exact_err : Below → (bytes : List ℕ) (readings : List Reading) (hop : HopView) (holder : HolderView) (signs : Signs) (message : MessageView) (earlier : List ℕ) (fault : HopFault)
    → IsRead bytes readings hop message earlier → Err fault ≡ onward message earlier readings hop
    → OfCall bytes readings hop (λ m n. IsFaultOf (decided fault) (retargeted bytes m n readings hop holder signs))
exact_err laws bytes readings hop holder signs message earlier fault i e =
    of_call laws bytes readings hop message earlier i (λ m n. IsFaultOf (decided fault) (retargeted bytes m n readings hop holder signs))
    (fault_as fault (retargeted bytes message earlier readings hop holder signs) (retargeted_err bytes message earlier readings hop holder signs fault e))

pub causes_err : Below → (bytes : List ℕ) (readings : List Reading) (hop : HopView) (holder : HolderView) (signs : Signs) (message : MessageView) (earlier : List ℕ) (fault : HopFault)
    → IsRead bytes readings hop message earlier → Err fault ≡ onward message earlier readings hop → CausedOnward bytes readings hop holder signs fault
causes_err laws bytes readings hop holder signs message earlier fault i e =
    of_call laws bytes readings hop message earlier i (λ m n. IsCaused bytes m n readings hop holder signs fault)
    ((stopped bytes readings hop message earlier fault i e).caused holder signs)

-- the provider wasn't asked
pub not_asked : {P X : Type 0} (provider : ProviderOf P) (now : P) (fault : HopFault) → is_provider fault ≡ false → IsAskedOnce {X = X} provider now now (Err fault)
not_asked provider now fault unnamed = record { failed = λ (h : is_provider fault ≡ true). absurd cc; failed_signing = λ (h : is_provider fault ≡ true). absurd cc; asks = omega arith; asks_stay = omega arith }

-- ---- the next hop

pub next_ok : {X : Type 0} (seen : X → List ℕ) (result : Result X HopFault) → Below → (bytes : List ℕ) (moment : ℕ) (screened : ScreenedView) (hop : HopView) (holder : HolderView) (signs : Signs) (says : Says) (states : List State)
    → IsScreenedFor bytes moment hop.local screened → 1 ≤ length screened.readings
    → ((world : World) (call : Call) → IsJudgedBy world call holder.table says moment screened.readings → AreRight world screened.readings states → First world call ≡ None)
    → IfOk result (λ out. IsRetargeted bytes screened.readings hop holder signs (seen out)) → IfOk result (λ out. BreaksNone (seen out) hop holder says screened.readings states)
next_ok seen (Ok out) laws bytes moment screened hop holder signs says states s some passed r =
    breaks_none laws bytes hop holder signs says screened.readings states (seen out) s.settings moment
    (goes_of laws bytes moment hop holder signs screened.readings (seen out) s.settings (stands bytes moment hop.local screened s) some r) passed
next_ok seen (Err fault) laws bytes moment screened hop holder signs says states s some passed r = tt

pub link_ok : {X : Type 0} (seen : X → List ℕ) (result : Result X HopFault) → Below → (bytes : List ℕ) (moment : ℕ) (screened : ScreenedView) (hop : HopView) (holder : HolderView) (signs : Signs)
    → IsScreenedFor bytes moment hop.local screened → 1 ≤ length screened.readings → IfOk result (λ out. IsRetargeted bytes screened.readings hop holder signs (seen out))
    → IfOk result (λ out. TellsOfDiversion bytes screened.readings hop (seen out))
link_ok seen (Ok out) laws bytes moment screened hop holder signs s some r = λ settings later e.
    adds_diversion laws bytes hop holder signs screened.readings (seen out) s.settings settings moment later
    (goes_of laws bytes moment hop holder signs screened.readings (seen out) s.settings (stands bytes moment hop.local screened s) some r) e
link_ok seen (Err fault) laws bytes moment screened hop holder signs s some r = tt
