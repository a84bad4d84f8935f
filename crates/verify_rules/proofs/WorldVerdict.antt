-- If what is known of the chains is right, a verdict over them is one of the world.
use Rattle.std.proofs.Common.{◌≡◌, inl, inr, ℕ, List, Option, Some, None, refl, ◌∙◌, ap, subst}
use Rattle.std.specs.Option.{option_or}
use Rattle.cert_store.specs.Rules.{Says}
use Rattle.delegation.specs.Coverage.{Table}
use Rattle.verify_rules.specs.Call.{Call, Reading, in_call_order}
use Rattle.verify_rules.specs.Late.{first_event}
use Rattle.verify_rules.specs.Rules.{early_rules, first}
use Rattle.verify_rules.specs.States.{State}
use Rattle.verify_rules.specs.Verdict.{IsVerdict}
use Rattle.verify_rules.specs.World.{AreRight, First, IsJudgedBy, VerdictOf, World, late_rules}
use Rattle.verify_rules.specs.declared.late.Event.{Event}
use Rattle.verify_rules.specs.declared.late.Event.TheVariants as events
use Rattle.verify_rules.specs.declared.refusal.Refusal.{Refusal}
use Rattle.verify_rules.specs.declared.verdict.Verdict.{Verdict}
use Rattle.verify_rules.specs.declared.verdict.Verdict.TheVariants.{Passed, Refused, Unread, Unasked}
use Rattle.verify_rules.proofs.FirstLaws.{none_broken}
use Rattle.verify_rules.proofs.WorldAgrees.{Agrees, first_agrees}
use Rattle.verify_rules.proofs.WorldAside.{may_be_unasked, may_be_unasked_here, may_be_unread}
use Rattle.verify_rules.proofs.WorldEvents.{AnsweredLaw, first_append, late_first, refused_event}

-- ---- the first broken rule of all

-- of a call that breaks none of the early rules
pub first_late : (world : World) (call : Call) → first early_rules call ≡ None → First world call ≡ first (late_rules world) call
first_late world call early = first_append early_rules (late_rules world) call ∙ ap (λ x. option_or x (first (late_rules world) call)) early

-- of a call that breaks one of them
pub first_early : (world : World) (call : Call) (refused : Refusal) → first early_rules call ≡ Some refused → First world call ≡ Some refused
first_early world call refused broken = first_append early_rules (late_rules world) call ∙ ap (λ x. option_or x (first (late_rules world) call)) broken

-- ---- by an event

none_refused : (refused : Option Refusal) → Agrees (refused_event refused) None → refused ≡ None
none_refused None a = refl
none_refused (Some refused) (inl same) = absurd cc
none_refused (Some refused) (inr aside) = absurd aside

some_refused : (refused : Option Refusal) (given : Refusal) → Agrees (refused_event refused) (Some (events.Refused given)) → refused ≡ Some given
some_refused None given (inl same) = absurd cc
some_refused None given (inr aside) = absurd aside
some_refused (Some refused) given (inl same) = cc
some_refused (Some refused) given (inr aside) = absurd aside

-- the first broken one of the rules of the chains agrees with the event over what is known of the chains
late_agrees : AnsweredLaw → (world : World) (call : Call) (states : List State) (event : Option Event) → AreRight world (in_call_order call) states
    → first_event world.says world.table call.moment (in_call_order call) states ≡ event → Agrees (refused_event (first (late_rules world) call)) event
late_agrees law world call states event right is =
    subst (λ x. Agrees x event) (late_first law world call)
    (subst (Agrees (first_event world.says world.table call.moment (in_call_order call) _)) is (first_agrees world call.moment (in_call_order call) states right))

verdict_by : AnsweredLaw → (world : World) (call : Call) (states : List State) (faults faults_now : ℕ) (verdict : Verdict) → first early_rules call ≡ None → AreRight world (in_call_order call) states
    → IsVerdict world.says world.table call.moment (in_call_order call) states faults faults_now verdict → VerdictOf world call verdict
verdict_by law world call states faults faults_now Passed early right h =
    first_late world call early ∙ none_refused (first (late_rules world) call) (late_agrees law world call states _ right h)
verdict_by law world call states faults faults_now (Refused refused) early right h =
    first_late world call early ∙ some_refused (first (late_rules world) call) refused (late_agrees law world call states _ right h)
verdict_by law world call states faults faults_now (Unread bad) early right h = may_be_unread law world call states bad (none_broken early_rules call early) right h
verdict_by law world call states faults faults_now (Unasked bad) early right (inl h) = may_be_unasked law world call states bad (none_broken early_rules call early) right h
verdict_by law world call states faults faults_now (Unasked bad) early right (inr h) =
    may_be_unasked_here law world call states bad (none_broken early_rules call early) right h.0 h.2

-- the verdict of a call that is judged by a world is one of this world
pub verdict_right : AnsweredLaw → (world : World) (call : Call) (table : Table) (says : Says) (moment : ℕ) (readings : List Reading) (states : List State) (faults faults_now : ℕ) (verdict : Verdict)
    → IsVerdict says table moment readings states faults faults_now verdict → IsJudgedBy world call table says moment readings → AreRight world readings states → VerdictOf world call verdict
verdict_right law world call table says moment readings states faults faults_now verdict h judged right =
    let a = subst (λ x. IsVerdict x table moment readings states faults faults_now verdict) judged.answers h in
    let b = subst (λ x. IsVerdict world.says x moment readings states faults faults_now verdict) judged.grants a in
    let c = subst (λ x. IsVerdict world.says world.table x readings states faults faults_now verdict) judged.now b in
    let d = subst (λ x. IsVerdict world.says world.table call.moment x states faults faults_now verdict) judged.in_order c in
    let e = subst (λ x. AreRight world x states) judged.in_order right in
    verdict_by law world call states faults faults_now verdict judged.early e d
