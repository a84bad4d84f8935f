-- What comes of a call from a verdict over its chains, and by which questions for signatures.
use Rattle.std.proofs.Common.{◌≡◌, ℕ, zero, suc, ◌≤◌, nat_lt, Bool, true, false, cond, ◌&&◌, List, [], ◌∷◌, is_none, Option, Some, None, Result, Ok, Err, IfOk, inl, inr, refl, sym, ◌∙◌, ap, subst, arith}
use Rattle.std.specs.List.{list_all, slice_get}
use Rattle.std.specs.Option.{option_map, option_or}
use Rattle.std.proofs.lemmas.Bool.{and_parts}
use Rattle.std.proofs.lemmas.Bool.Decides.{nat_tests}
use Rattle.std.proofs.lemmas.Option.{same_Some}
use Rattle.stir_outside.proofs.CountLaws.{never_rose}
use Rattle.stir_outside.specs.Count.{Rose}
use Rattle.cert_store.specs.Asking.{is_failed}
use Rattle.cert_store.specs.Questions.{AgreeOn}
use Rattle.cert_store.specs.Rules.{QuestionView, Says}
use Rattle.delegation.specs.Coverage.{Table}
use Rattle.call_judging.proofs.AgreeLaws.{agree_left, agree_right}
use Rattle.call_judging.specs.AlwaysYes.{always_yes}
use Rattle.call_judging.specs.CallQuestions.{own_question, own_questions, under_leaf}
use Rattle.verify_rules.specs.Call.{Call, Reading, in_call_order}
use Rattle.verify_rules.specs.Causes.{IsCaused}
use Rattle.verify_rules.specs.Late.{asking, at_asking, first_event, first_rule, is_signed_by, rules_after, rules_before, unless_signed}
use Rattle.verify_rules.specs.Rules.{early_rules, first}
use Rattle.verify_rules.specs.Screened.{ScreenedView, screened_by, screened_of}
use Rattle.verify_rules.specs.States.{State, have, no_chain, long, unread}
use Rattle.verify_rules.specs.Verdict.{IsVerdict, verdict_of}
use Rattle.verify_rules.specs.declared.refusal.Refusal.{Refusal}
use Rattle.verify_rules.specs.declared.verdict.Verdict.{Verdict}
use Rattle.verify_rules.specs.declared.verdict.Verdict.TheVariants as verdicts
use Rattle.open_calls.specs.Founds.{IsDecided, IsFoundOver, asks_by}
use Rattle.open_calls.specs.OpenChains.{is_known}
use Rattle.open_calls.specs.OwnQuestions.{Confirms, asks_own, is_late, own_asked}
use Rattle.open_calls.specs.declared.found.Found.{Found}
use Rattle.open_calls.specs.declared.judging.Asked.{Asked}
use Rattle.open_calls.specs.declared.found.Found.TheVariants.{Refused, Passes}
use Rattle.x509_profile.specs.View.{CertView}

-- ---- nothing is left open

all_at : {X : Type 0} (p : X → Bool) (xs : List X) (i : ℕ) (x : X) → list_all p xs ≡ true → slice_get xs i ≡ Some x → p x ≡ true
all_at p [] i x all is = absurd (cc)
all_at p (y ∷ ys) zero x all is = ap p (sym (same_Some y x is)) ∙ (and_parts (p y) (list_all p ys) all).0
all_at p (y ∷ ys) (suc i) x all is = all_at p ys i x (and_parts (p y) (list_all p ys) all).1 is

judged_known : (failed : Bool) → cond failed false true ≡ true → failed ≡ false
judged_known true e = absurd (cc)
judged_known false e = refl

pub decided : (readings : List Reading) (states : List State) (faults faults_now : ℕ) (verdict : Verdict) → list_all is_known states ≡ true → faults ≡ 0 → faults_now ≡ 0
    → IsCaused readings states faults faults_now verdict → IsDecided verdict
decided readings states faults faults_now verdicts.Passed known none none_now caused = tt
decided readings states faults faults_now (verdicts.Refused refused) known none none_now caused = tt
decided readings states faults faults_now (verdicts.Unread bad) known none none_now caused =
    absurd (let here : is_known unread ≡ true = all_at is_known states caused.at unread known caused.chain in cc)
decided readings states faults faults_now (verdicts.Unasked bad) known none none_now (inl open_at) =
    absurd (
    let here : is_known (have open_at.judged) ≡ true = all_at is_known states open_at.at (have open_at.judged) known open_at.chain in
    let failed : is_failed open_at.judged.asked ≡ true = ap is_failed open_at.failed in
    let not_so : is_failed open_at.judged.asked ≡ false = judged_known (is_failed open_at.judged.asked) here in
    cc)
decided readings states faults faults_now (verdicts.Unasked bad) known none none_now (inr failed) =
    absurd (never_rose (subst (λ n. Rose 0 n) none_now (subst (λ n. Rose n faults_now) none failed.rose)))

-- ---- a call that was screened

pub readings_are : (call : Call) (screened : ScreenedView) → screened ≡ screened_of call → screened.readings ≡ in_call_order call
unfolding screened_by
readings_are call screened is = ap (λ (s : ScreenedView). s.readings) is

pub verdict_in : (says : Says) (table : Table) (call : Call) (screened : ScreenedView) (states : List State) (moment faults faults_now : ℕ) (verdict : Verdict)
    → screened ≡ screened_of call → moment ≡ call.moment → faults ≡ 0 → faults_now ≡ 0 → IsVerdict says table moment screened.readings states faults faults_now verdict
    → IsVerdict says table call.moment (in_call_order call) states 0 0 verdict
verdict_in says table call screened states moment faults faults_now verdict is now none none_now h =
    let a = subst (λ n. IsVerdict says table n screened.readings states faults faults_now verdict) now h in
    let b = subst (λ (r : List Reading). IsVerdict says table call.moment r states faults faults_now verdict) (readings_are call screened is) a in
    let c = subst (λ n. IsVerdict says table call.moment (in_call_order call) states n faults_now verdict) none b in
    subst (λ n. IsVerdict says table call.moment (in_call_order call) states 0 n verdict) none_now c

-- ---- whether the PASSporTs' own signatures are asked for

pub asks_is : (table : Table) (states : List State) (call : Call) (found : Found) → first early_rules call ≡ None → IsFoundOver always_yes table states call found
    → asks_by found ≡ asks_own table states call
asks_is table states call (Refused refused) early (inl refused_early) = absurd (cc)
asks_is table states call (Refused refused) early (inr (none, h)) =
    let asked : option_map verdict_of (first_event always_yes table call.moment (in_call_order call) states) ≡ Some (verdicts.Refused refused) = ap (option_map verdict_of) h in
    sym (ap (λ (e : Option Refusal). is_none e && is_late (option_map verdict_of (first_event always_yes table call.moment (in_call_order call) states))) early ∙ ap is_late asked)
asks_is table states call (Passes pass) early (none, h, known) =
    let asked : option_map verdict_of (first_event always_yes table call.moment (in_call_order call) states) ≡ None = ap (option_map verdict_of) h in
    sym (ap (λ (e : Option Refusal). is_none e && is_late (option_map verdict_of (first_event always_yes table call.moment (in_call_order call) states))) early ∙ ap is_late asked)

pub own_none : (table : Table) (states : List State) (call : Call) (found : Found) (asked : List QuestionView) (asks : Bool) → first early_rules call ≡ None
    → IsFoundOver always_yes table states call found → asks ≡ asks_by found → asks ≡ false → asked ≡ [] → asked ≡ own_asked table states call
own_none table states call found asked asks early over test not_asked none =
    none ∙ sym (ap (λ t. cond t (own_questions (in_call_order call) states) []) (sym (asks_is table states call found early over) ∙ sym test ∙ not_asked))

pub own_some : (table : Table) (states : List State) (call : Call) (found : Found) (asked : List QuestionView) (readings : List Reading) (asks : Bool) → first early_rules call ≡ None
    → IsFoundOver always_yes table states call found → asks ≡ asks_by found → asks ≡ true → readings ≡ in_call_order call → asked ≡ own_questions readings states
    → asked ≡ own_asked table states call
own_some table states call found asked readings asks early over test is_asked in_order is =
    is ∙ ap (λ (r : List Reading). own_questions r states) in_order
    ∙ sym (ap (λ t. cond t (own_questions (in_call_order call) states) []) (sym (asks_is table states call found early over) ∙ sym test ∙ is_asked))

-- ---- two providers that agree on what is asked

pub agree_back : (says other : Says) (questions : List QuestionView) → AgreeOn says other questions → AgreeOn other says questions
agree_back says other [] agree = tt
agree_back says other (asked ∷ others) agree = (sym agree.0, agree_back says other others agree.1)

pub yes_confirms : (questions : List QuestionView) → Confirms always_yes questions
yes_confirms [] = tt
yes_confirms (asked ∷ others) = (refl, yes_confirms others)

pub confirms_agree : (says : Says) (questions : List QuestionView) → Confirms says questions → AgreeOn always_yes says questions
confirms_agree says [] confirms = tt
confirms_agree says (asked ∷ others) confirms = (sym confirms.0, confirms_agree says others confirms.1)

leaf_agree : (says other : Says) (one : Reading) (leaf : Option CertView) → AgreeOn says other (under_leaf one leaf) → is_signed_by says one leaf ≡ is_signed_by other one leaf
leaf_agree says other one None agree = refl
leaf_agree says other one (Some leaf) agree = agree.0

at_agree : (says other : Says) (one : Reading) (state : State) → AgreeOn says other (own_question one state) → at_asking says one state ≡ at_asking other one state
unfolding at_asking
at_agree says other one (have judged) agree = ap (unless_signed one.mark.field) (leaf_agree says other one (slice_get judged.certificates 0) agree)
at_agree says other one no_chain agree = refl
at_agree says other one long agree = refl
at_agree says other one unread agree = refl

asking_agree : (says other : Says) (readings : List Reading) (states : List State) → AgreeOn says other (own_questions readings states) → asking says readings states ≡ asking other readings states
asking_agree says other [] states agree = refl
asking_agree says other (one ∷ readings) [] agree = refl
asking_agree says other (one ∷ readings) (state ∷ states) agree =
    let here = agree_left says other (own_question one state) (own_questions readings states) agree in
    let rest = agree_right says other (own_question one state) (own_questions readings states) agree in
    ap (λ x. option_or x (asking says readings states)) (at_agree says other one state here) ∙ ap (option_or (at_asking other one state)) (asking_agree says other readings states rest)

event_agree : (says other : Says) (table : Table) (moment : ℕ) (readings : List Reading) (states : List State) → AgreeOn says other (own_questions readings states)
    → first_event says table moment readings states ≡ first_event other table moment readings states
event_agree says other table moment readings states agree =
    ap (λ x. option_or (first_rule rules_before table moment readings states) (option_or x (first_rule rules_after table moment readings states))) (asking_agree says other readings states agree)

-- the law that a refusal by one of rules 10 to 15 is the same by every provider
abbrev pub Unasked : Type 0
Unasked = (says other : Says) (table : Table) (moment : ℕ) (readings : List Reading) (states : List State) (refused : Refusal) → refused.rule ≤ 15
    → IsVerdict says table moment readings states 0 0 (verdicts.Refused refused) → IsVerdict other table moment readings states 0 0 (verdicts.Refused refused)

over_agree : (says other : Says) (table : Table) (states : List State) (call : Call) (found : Found) → AgreeOn says other (own_questions (in_call_order call) states)
    → IsFoundOver says table states call found → IsFoundOver other table states call found
over_agree says other table states call (Refused refused) agree (inl early) = inl early
over_agree says other table states call (Refused refused) agree (inr (none, h)) = inr (none, sym (event_agree says other table call.moment (in_call_order call) states agree) ∙ h)
over_agree says other table states call (Passes pass) agree (none, h, known) = (none, sym (event_agree says other table call.moment (in_call_order call) states agree) ∙ h, known)

same_refusal : (a b : Refusal) → ◌≡◌ {A = Option Verdict} (Some (verdicts.Refused a)) (Some (verdicts.Refused b)) → a ≡ b
same_refusal a b e = cc

over_low : Unasked → (says other : Says) (table : Table) (states : List State) (call : Call) (low found : Refusal) → low.rule ≤ 15
    → IsVerdict always_yes table call.moment (in_call_order call) states 0 0 (verdicts.Refused low) → IsVerdict says table call.moment (in_call_order call) states 0 0 (verdicts.Refused found)
    → IsVerdict other table call.moment (in_call_order call) states 0 0 (verdicts.Refused found)
over_low law says other table states call low found below all h =
    let mine = law always_yes says table call.moment (in_call_order call) states low below all in
    let yours = law always_yes other table call.moment (in_call_order call) states low below all in
    let same : low ≡ found = same_refusal low found (ap (option_map verdict_of) (sym mine ∙ h)) in
    subst (λ (r : Refusal). IsVerdict other table call.moment (in_call_order call) states 0 0 (verdicts.Refused r)) same yours

no_pass : Unasked → (says : Says) (table : Table) (states : List State) (call : Call) (low : Refusal) → low.rule ≤ 15
    → IsVerdict always_yes table call.moment (in_call_order call) states 0 0 (verdicts.Refused low) → IsVerdict says table call.moment (in_call_order call) states 0 0 verdicts.Passed → ⊥
no_pass law says table states call low below all h =
    let mine = law always_yes says table call.moment (in_call_order call) states low below all in
    let e : ◌≡◌ {A = Option Verdict} (Some (verdicts.Refused low)) None = ap (option_map verdict_of) (sym mine ∙ h) in
    cc

by_low : Unasked → (says other : Says) (table : Table) (states : List State) (call : Call) (low : Refusal) (found : Found) → low.rule ≤ 15 → first early_rules call ≡ None
    → IsVerdict always_yes table call.moment (in_call_order call) states 0 0 (verdicts.Refused low) → IsFoundOver says table states call found → IsFoundOver other table states call found
by_low law says other table states call low (Refused refused) below early all (inl refused_early) = inl refused_early
by_low law says other table states call low (Refused refused) below early all (inr (none, h)) = inr (none, over_low law says other table states call low refused below all h)
by_low law says other table states call low (Passes pass) below early all (none, h, known) = absurd (no_pass law says table states call low below all h)

low_of : (rule : ℕ) → nat_lt 15 rule ≡ false → rule ≤ 15
low_of rule e = grind (arith, nat_tests)

asked_if : (table : Table) (states : List State) (call : Call) (says other : Says) (t : Bool) → asks_own table states call ≡ t → t ≡ true → AgreeOn says other (own_asked table states call)
    → AgreeOn says other (own_questions (in_call_order call) states)
asked_if table states call says other t is all agree =
    subst (λ (b : Bool). AgreeOn says other (cond b (own_questions (in_call_order call) states) [])) (is ∙ all) agree

by_yes : Unasked → (says other : Says) (table : Table) (states : List State) (call : Call) (all found : Found) (t : Bool) → first early_rules call ≡ None → asks_by all ≡ t
    → IsFoundOver always_yes table states call all → AgreeOn says other (own_asked table states call) → IsFoundOver says table states call found → IsFoundOver other table states call found
by_yes law says other table states call all found true early asks over agree h =
    over_agree says other table states call found (asked_if table states call says other true (sym (asks_is table states call all early over) ∙ asks) refl agree) h
by_yes law says other table states call (Passes pass) found false early asks over agree h = absurd (cc)
by_yes law says other table states call (Refused low) found false early asks (inl refused_early) agree h = absurd (cc)
by_yes law says other table states call (Refused low) found false early asks (inr (none, v)) agree h =
    by_low law says other table states call low found (low_of low.rule asks) none v h

refused_same : (says other : Says) (table : Table) (states : List State) (call : Call) (refused : Refusal) (found : Found) → first early_rules call ≡ Some refused
    → IsFoundOver says table states call found → IsFoundOver other table states call found
refused_same says other table states call refused (Refused r) early (inl e) = inl e
refused_same says other table states call refused (Refused r) early (inr (none, h)) = absurd (cc)
refused_same says other table states call refused (Passes pass) early (none, h, known) = absurd (cc)

by_early : Unasked → (says other : Says) (table : Table) (states : List State) (call : Call) (all found : Found) (early : Option Refusal) → first early_rules call ≡ early
    → IsFoundOver always_yes table states call all → AgreeOn says other (own_asked table states call) → IsFoundOver says table states call found → IsFoundOver other table states call found
by_early law says other table states call all found None early over agree h = by_yes law says other table states call all found (asks_by all) early refl over agree h
by_early law says other table states call all found (Some refused) early over agree h = refused_same says other table states call refused found early h

-- Providers that agree on what is asked for the PASSporTs find the same of the call.
pub same_over : Unasked → (says other : Says) (table : Table) (states : List State) (call : Call) (all found : Found) → IsFoundOver always_yes table states call all
    → AgreeOn says other (own_asked table states call) → IsFoundOver says table states call found → IsFoundOver other table states call found
same_over law says other table states call all found over agree h = by_early law says other table states call all found (first early_rules call) refl over agree h

-- what is found by who confirms everything is found by whoever confirms these
pub if_confirmed : {E : Type 0} → Unasked → (table : Table) (states : List State) (call : Call) (came : Result Asked E) → IfOk came (λ asked. IsFoundOver always_yes table states call asked.found)
    → (says : Says) → Confirms says (own_asked table states call) → IfOk came (λ asked. IsFoundOver says table states call asked.found)
if_confirmed law table states call (Ok asked) over says confirms =
    same_over law always_yes says table states call asked.found asked.found over (confirms_agree says (own_asked table states call) confirms) over
if_confirmed law table states call (Err failed) over says confirms = tt
