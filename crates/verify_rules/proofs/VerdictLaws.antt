-- What each event comes to, in the order of the rules.
use Rattle.std.proofs.Common.{◌≡◌, ◌≢◌, ℕ, ◌<◌, Bool, true, false, List, [], ◌∷◌, Option, Some, None, inl, inr, refl, sym, ◌∙◌, ap, subst, arith}
use Rattle.std.specs.List.{slice_get}
use Rattle.std.specs.Option.{option_or}
use Rattle.stir_outside.specs.Count.{Rose, last_count}
use Rattle.delegation.specs.Coverage.{Table}
use Rattle.cert_store.specs.Judged.{JudgedView}
use Rattle.cert_store.specs.Rules.{Says}
use Rattle.cert_store.specs.declared.judged.Asked.{Asked}
use Rattle.cert_store.specs.declared.judged.Asked.TheVariants.{NotAsked, Yes, No, Failed}
use Rattle.verify_rules.specs.Call.{Reading}
use Rattle.verify_rules.specs.Late.{asking, at_asking, at_rule, by_answer, event_of, first_event, first_rule, is_signed_by, number, rules_after, rules_before, tell_judged, tell_long, tell_missing, rule_event, unless_signed}
use Rattle.verify_rules.specs.Rules.{place}
use Rattle.verify_rules.specs.States.{State, have, no_chain, long, unread}
use Rattle.verify_rules.specs.Verdict.{IsLeftOpen, IsOpenAt, IsVerdict, QuietIs, verdict_of}
use Rattle.verify_rules.specs.declared.late.Event.{Event}
use Rattle.verify_rules.specs.declared.late.Event.TheVariants as events
use Rattle.verify_rules.specs.declared.late.LateRule.{LateRule}
use Rattle.verify_rules.specs.declared.late.LateRule.TheVariants as late
use Rattle.verify_rules.specs.declared.refusal.Place.{Place}
use Rattle.verify_rules.specs.declared.verdict.Verdict.{Verdict}
use Rattle.verify_rules.specs.declared.verdict.Verdict.TheVariants.{Passed, Refused, Unread, Unasked}
use Rattle.verify_rules.proofs.FirstOf.{both_none, found, none_at}
use Rattle.verify_rules.proofs.ResultLaws.{AskNothing, AsksNothing, IsSetAside, ask_nothing, definite_event, judged_definite, unjudged_definite}

-- ---- what a rule leaves open of a chain: nothing, unless it asks for the chain's signatures, or the chain isn't known

judged_closed : (rule : LateRule) (table : Table) (moment : ℕ) (one : Reading) (judged : JudgedView) → AsksNothing rule → IsSetAside (at_rule rule table moment one (have judged)) → ⊥
unfolding at_rule
judged_closed rule table moment one judged nothing aside =
    definite_event (number rule) one.mark.field (tell_judged rule table moment one judged) (judged_definite rule table moment one judged nothing) aside

missing_closed : (rule : LateRule) (table : Table) (moment : ℕ) (one : Reading) → IsSetAside (at_rule rule table moment one no_chain) → ⊥
unfolding at_rule
missing_closed rule table moment one aside = definite_event (number rule) one.mark.field (tell_missing rule) (unjudged_definite rule).0 aside

long_closed : (rule : LateRule) (table : Table) (moment : ℕ) (one : Reading) → IsSetAside (at_rule rule table moment one long) → ⊥
unfolding at_rule
long_closed rule table moment one aside = definite_event (number rule) one.mark.field (tell_long rule) (unjudged_definite rule).1 aside

signed_closed : (field : ℕ) (t : Bool) → IsSetAside (unless_signed field t) → ⊥
signed_closed field true aside = aside
signed_closed field false aside = aside

answer_known : (field : ℕ) (asked : Asked) (bad : Place) → event_of 15 field (by_answer asked) ≡ Some (events.Unread bad) → ⊥
answer_known field NotAsked bad h = cc
answer_known field Yes bad h = cc
answer_known field (No part) bad h = cc
answer_known field (Failed part) bad h = cc

-- ---- rule 10 meets a chain that isn't known first

judged_known : (rule : LateRule) (table : Table) (moment : ℕ) (one : Reading) (judged : JudgedView) (bad : Place) → at_rule rule table moment one (have judged) ≡ Some (events.Unread bad) → ⊥
unfolding at_rule
judged_known late.Asked table moment one judged bad h = answer_known one.mark.field judged.asked bad h
judged_known rule table moment one judged bad h = judged_closed rule table moment one judged tt (subst IsSetAside (sym h) tt)

listed_missing : (table : Table) (moment : ℕ) (one : Reading) → at_rule late.Listed table moment one no_chain ≡ None → ⊥
unfolding at_rule
listed_missing table moment one h = cc

listed_unread : (table : Table) (moment : ℕ) (one : Reading) → at_rule late.Listed table moment one unread ≡ None → ⊥
unfolding at_rule
listed_unread table moment one h = cc

known_here : (rule : LateRule) (table : Table) (moment : ℕ) (one : Reading) (state : State) (bad : Place) → at_rule late.Listed table moment one state ≡ None
    → at_rule rule table moment one state ≡ Some (events.Unread bad) → ⊥
known_here rule table moment one (have judged) bad holds h = judged_known rule table moment one judged bad h
known_here rule table moment one no_chain bad holds h = listed_missing table moment one holds
known_here rule table moment one long bad holds h = long_closed rule table moment one (subst IsSetAside (sym h) tt)
known_here rule table moment one unread bad holds h = listed_unread table moment one holds

signing_here : (says : Says) (table : Table) (moment : ℕ) (one : Reading) (state : State) (bad : Place) → at_rule late.Listed table moment one state ≡ None
    → at_asking says one state ≡ Some (events.Unread bad) → ⊥
unfolding at_asking
signing_here says table moment one (have judged) bad holds h =
    signed_closed one.mark.field (is_signed_by says one (slice_get judged.certificates 0)) (subst IsSetAside (sym h) tt)
signing_here says table moment one no_chain bad holds h = cc
signing_here says table moment one long bad holds h = cc
signing_here says table moment one unread bad holds h = listed_unread table moment one holds

rule_event_known : (rule : LateRule) (table : Table) (moment : ℕ) (readings : List Reading) (states : List State) (bad : Place) → rule_event late.Listed table moment readings states ≡ None
    → rule_event rule table moment readings states ≡ Some (events.Unread bad) → ⊥
rule_event_known rule table moment readings states bad holds h =
    let f = found (at_rule rule table moment) readings states (events.Unread bad) h in
    known_here rule table moment f.one f.state bad (none_at (at_rule late.Listed table moment) readings states f.index f.one f.state holds f.is f.chain) f.gives

asking_known : (says : Says) (table : Table) (moment : ℕ) (readings : List Reading) (states : List State) (bad : Place) → rule_event late.Listed table moment readings states ≡ None
    → asking says readings states ≡ Some (events.Unread bad) → ⊥
asking_known says table moment readings states bad holds h =
    let f = found (at_asking says) readings states (events.Unread bad) h in
    signing_here says table moment f.one f.state bad (none_at (at_rule late.Listed table moment) readings states f.index f.one f.state holds f.is f.chain) f.gives

-- ---- the rule of an event

rule_by : (rule : LateRule) (rules : List LateRule) (table : Table) (moment : ℕ) (readings : List Reading) (states : List State) (event : Event) (o : Option Event)
    → rule_event rule table moment readings states ≡ o → (first_rule rules table moment readings states ≡ Some event → (by : LateRule) × (rule_event by table moment readings states ≡ Some event))
    → option_or o (first_rule rules table moment readings states) ≡ Some event → (by : LateRule) × (rule_event by table moment readings states ≡ Some event)
rule_by rule rules table moment readings states event None e below h = below h
rule_by rule rules table moment readings states event (Some x) e below h = (rule, e ∙ h)

rule_of : (rules : List LateRule) (table : Table) (moment : ℕ) (readings : List Reading) (states : List State) (event : Event) → first_rule rules table moment readings states ≡ Some event
    → (by : LateRule) × (rule_event by table moment readings states ≡ Some event)
rule_of [] table moment readings states event h = absurd cc
rule_of (rule ∷ rules) table moment readings states event h =
    rule_by rule rules table moment readings states event (rule_event rule table moment readings states) refl (rule_of rules table moment readings states event) h

listed_by : (rules : List LateRule) (table : Table) (moment : ℕ) (readings : List Reading) (states : List State) (bad : Place) (o : Option Event) → rule_event late.Listed table moment readings states ≡ o
    → option_or o (first_rule rules table moment readings states) ≡ Some (events.Unread bad) → rule_event late.Listed table moment readings states ≡ Some (events.Unread bad)
listed_by rules table moment readings states bad None e h =
    let r = rule_of rules table moment readings states (events.Unread bad) h in absurd (rule_event_known r.0 table moment readings states bad e r.1)
listed_by rules table moment readings states bad (Some x) e h = e ∙ h

abbrev behind_listed : List LateRule
behind_listed = late.Profile ∷ late.Shape ∷ late.Dates ∷ late.Authority ∷ late.Asked ∷ []

listed_first : (table : Table) (moment : ℕ) (readings : List Reading) (states : List State) (bad : Place) → first_rule rules_before table moment readings states ≡ Some (events.Unread bad)
    → rule_event late.Listed table moment readings states ≡ Some (events.Unread bad)
listed_first table moment readings states bad h = listed_by behind_listed table moment readings states bad (rule_event late.Listed table moment readings states) refl h

listed_holds : (table : Table) (moment : ℕ) (readings : List Reading) (states : List State) → first_rule rules_before table moment readings states ≡ None
    → rule_event late.Listed table moment readings states ≡ None
listed_holds table moment readings states h = (both_none (rule_event late.Listed table moment readings states) (first_rule behind_listed table moment readings states) h).0

-- ---- rule 15 alone, and a question of rule 16 that failed, leave an answer open

failed_by : (one : Reading) (judged : JudgedView) (asked : Asked) (bad : Place) → judged.asked ≡ asked → event_of 15 one.mark.field (by_answer asked) ≡ Some (events.Unasked bad)
    → (part : ℕ) × (judged.asked ≡ Failed part) × (bad ≡ place one.mark.field part)
failed_by one judged NotAsked bad e h = absurd cc
failed_by one judged Yes bad e h = absurd cc
failed_by one judged (No part) bad e h = absurd cc
failed_by one judged (Failed part) bad e h = let same : place one.mark.field part ≡ bad = cc in (part, e, sym same)

failed_judged : (rule : LateRule) (table : Table) (moment : ℕ) (one : Reading) (judged : JudgedView) (bad : Place) → at_rule rule table moment one (have judged) ≡ Some (events.Unasked bad)
    → (part : ℕ) × (judged.asked ≡ Failed part) × (bad ≡ place one.mark.field part)
unfolding at_rule
failed_judged late.Asked table moment one judged bad h = failed_by one judged judged.asked bad refl h
failed_judged rule table moment one judged bad h = absurd (judged_closed rule table moment one judged tt (subst IsSetAside (sym h) tt))

unread_asks_none : (rule : LateRule) (table : Table) (moment : ℕ) (one : Reading) (bad : Place) → at_rule rule table moment one unread ≡ Some (events.Unasked bad) → ⊥
unfolding at_rule
unread_asks_none rule table moment one bad h = cc

failed_here : (rule : LateRule) (table : Table) (moment : ℕ) (readings : List Reading) (states : List State) (i : ℕ) (one : Reading) (state : State) (bad : Place) → slice_get readings i ≡ Some one
    → slice_get states i ≡ Some state → at_rule rule table moment one state ≡ Some (events.Unasked bad) → IsLeftOpen readings states bad
failed_here rule table moment readings states i one (have judged) bad e f h =
    let p = failed_judged rule table moment one judged bad h in record { at = i; here = one; is = e; judged = judged; chain = f; part = p.0; failed = p.1; place = p.2 }
failed_here rule table moment readings states i one no_chain bad e f h = absurd (missing_closed rule table moment one (subst IsSetAside (sym h) tt))
failed_here rule table moment readings states i one long bad e f h = absurd (long_closed rule table moment one (subst IsSetAside (sym h) tt))
failed_here rule table moment readings states i one unread bad e f h = absurd (unread_asks_none rule table moment one bad h)

failed_chain : (rules : List LateRule) (table : Table) (moment : ℕ) (readings : List Reading) (states : List State) (bad : Place)
    → first_rule rules table moment readings states ≡ Some (events.Unasked bad) → IsLeftOpen readings states bad
failed_chain rules table moment readings states bad h =
    let r = rule_of rules table moment readings states (events.Unasked bad) h in
    let f = found (at_rule r.0 table moment) readings states (events.Unasked bad) r.1 in
    failed_here r.0 table moment readings states f.index f.one f.state bad f.is f.chain f.gives

answered_here : (rule : LateRule) (table : Table) (moment : ℕ) (one : Reading) (state : State) (bad : Place) → AsksNothing rule → at_rule rule table moment one state ≡ Some (events.Unasked bad) → ⊥
answered_here rule table moment one (have judged) bad nothing h = judged_closed rule table moment one judged nothing (subst IsSetAside (sym h) tt)
answered_here rule table moment one no_chain bad nothing h = missing_closed rule table moment one (subst IsSetAside (sym h) tt)
answered_here rule table moment one long bad nothing h = long_closed rule table moment one (subst IsSetAside (sym h) tt)
answered_here rule table moment one unread bad nothing h = unread_asks_none rule table moment one bad h

rule_answered : (rule : LateRule) (table : Table) (moment : ℕ) (readings : List Reading) (states : List State) (bad : Place) → AsksNothing rule
    → rule_event rule table moment readings states ≡ Some (events.Unasked bad) → ⊥
rule_answered rule table moment readings states bad nothing h =
    let f = found (at_rule rule table moment) readings states (events.Unasked bad) h in answered_here rule table moment f.one f.state bad nothing f.gives

answered_by : (later o : Option Event) (bad : Place) → (o ≡ Some (events.Unasked bad) → ⊥) → (later ≡ Some (events.Unasked bad) → ⊥) → option_or o later ≡ Some (events.Unasked bad) → ⊥
answered_by later None bad here below h = below h
answered_by later (Some x) bad here below h = here h

-- rules that ask nothing leave nothing open
rules_answered : (rules : List LateRule) (table : Table) (moment : ℕ) (readings : List Reading) (states : List State) (bad : Place) → AskNothing rules
    → first_rule rules table moment readings states ≡ Some (events.Unasked bad) → ⊥
rules_answered [] table moment readings states bad nothing h = cc
rules_answered (rule ∷ rules) table moment readings states bad nothing h =
    answered_by (first_rule rules table moment readings states) (rule_event rule table moment readings states) bad (rule_answered rule table moment readings states bad nothing.0)
    (rules_answered rules table moment readings states bad nothing.1) h

asking_here : (says : Says) (one : Reading) (state : State) (bad : Place) → at_asking says one state ≡ Some (events.Unasked bad) → ⊥
unfolding at_asking
asking_here says one (have judged) bad h = signed_closed one.mark.field (is_signed_by says one (slice_get judged.certificates 0)) (subst IsSetAside (sym h) tt)
asking_here says one no_chain bad h = cc
asking_here says one long bad h = cc
asking_here says one unread bad h = cc

-- ---- the verdict of each exit

before_by : (says : Says) (table : Table) (moment : ℕ) (readings : List Reading) (states : List State) (faults now : ℕ) (event : Event)
    → first_rule rules_before table moment readings states ≡ Some event → IsVerdict says table moment readings states faults now (verdict_of event)
before_by says table moment readings states faults now (events.Refused refused) h =
    ap (λ x. option_or x (option_or (asking says readings states) (first_rule rules_after table moment readings states))) h
before_by says table moment readings states faults now (events.Unread bad) h = listed_first table moment readings states bad h
before_by says table moment readings states faults now (events.Unasked bad) h = inl h

asking_by : (says : Says) (table : Table) (moment : ℕ) (readings : List Reading) (states : List State) (faults now : ℕ) (event : Event)
    → first_rule rules_before table moment readings states ≡ None → asking says readings states ≡ Some event → IsVerdict says table moment readings states faults now (verdict_of event)
asking_by says table moment readings states faults now (events.Refused refused) none h =
    ap (λ x. option_or x (option_or (asking says readings states) (first_rule rules_after table moment readings states))) none
    ∙ ap (λ x. option_or x (first_rule rules_after table moment readings states)) h
asking_by says table moment readings states faults now (events.Unread bad) none h =
    absurd (asking_known says table moment readings states bad (listed_holds table moment readings states none) h)
asking_by says table moment readings states faults now (events.Unasked bad) none h =
    let f = found (at_asking says) readings states (events.Unasked bad) h in absurd (asking_here says f.one f.state bad f.gives)

after_by : (says : Says) (table : Table) (moment : ℕ) (readings : List Reading) (states : List State) (faults now : ℕ) (event : Event)
    → first_rule rules_before table moment readings states ≡ None → asking says readings states ≡ None → first_rule rules_after table moment readings states ≡ Some event
    → IsVerdict says table moment readings states faults now (verdict_of event)
after_by says table moment readings states faults now (events.Refused refused) none signed h =
    ap (λ x. option_or x (option_or (asking says readings states) (first_rule rules_after table moment readings states))) none
    ∙ ap (λ x. option_or x (first_rule rules_after table moment readings states)) signed ∙ h
after_by says table moment readings states faults now (events.Unread bad) none signed h =
    let r = rule_of rules_after table moment readings states (events.Unread bad) h in
    absurd (rule_event_known r.0 table moment readings states bad (listed_holds table moment readings states none) r.1)
after_by says table moment readings states faults now (events.Unasked bad) none signed h = absurd (rules_answered rules_after table moment readings states bad (ask_nothing rules_after refl) h)

pub by_before : (says : Says) (table : Table) (moment : ℕ) (readings : List Reading) (states : List State) (faults now : ℕ) (event : Event) (o : Option Event) (v : Verdict)
    → o ≡ first_rule rules_before table moment readings states → o ≡ Some event → v ≡ verdict_of event → IsVerdict says table moment readings states faults now v
by_before says table moment readings states faults now event o v is some e =
    subst (IsVerdict says table moment readings states faults now) (sym e) (before_by says table moment readings states faults now event (sym is ∙ some))

pub by_asking : (says : Says) (table : Table) (moment : ℕ) (readings : List Reading) (states : List State) (faults now : ℕ) (event : Event) (before o : Option Event) (v : Verdict)
    → before ≡ first_rule rules_before table moment readings states → before ≡ None → o ≡ asking says readings states → o ≡ Some event → v ≡ verdict_of event
    → IsVerdict says table moment readings states faults now v
by_asking says table moment readings states faults now event before o v is none asked some e =
    subst (IsVerdict says table moment readings states faults now) (sym e) (asking_by says table moment readings states faults now event (sym is ∙ none) (sym asked ∙ some))

pub left_open : (says : Says) (table : Table) (moment : ℕ) (readings : List Reading) (states : List State) (faults now : ℕ) (before : Option Event) (bad : Place)
    → before ≡ first_rule rules_before table moment readings states → before ≡ None → Rose faults now × IsOpenAt says readings states bad
    → IsVerdict says table moment readings states faults now (Unasked bad)
left_open says table moment readings states faults now before bad is none open_at = inr (sym is ∙ none, open_at.0, open_at.1)

pub by_after : (says : Says) (table : Table) (moment : ℕ) (readings : List Reading) (states : List State) (faults now : ℕ) (event : Event) (before asked o : Option Event) (v : Verdict)
    → before ≡ first_rule rules_before table moment readings states → before ≡ None → asked ≡ asking says readings states → asked ≡ None
    → o ≡ first_rule rules_after table moment readings states → o ≡ Some event → v ≡ verdict_of event → IsVerdict says table moment readings states faults now v
by_after says table moment readings states faults now event before asked o v is none asks signed after some e =
    subst (IsVerdict says table moment readings states faults now) (sym e)
    (after_by says table moment readings states faults now event (sym is ∙ none) (sym asks ∙ signed) (sym after ∙ some))

pub by_none : (says : Says) (table : Table) (moment : ℕ) (readings : List Reading) (states : List State) (before asked o : Option Event)
    → before ≡ first_rule rules_before table moment readings states → before ≡ None → asked ≡ asking says readings states → asked ≡ None
    → o ≡ first_rule rules_after table moment readings states → o ≡ None → first_event says table moment readings states ≡ None
by_none says table moment readings states before asked o is none asks signed after passed =
    ap (λ x. option_or x (option_or (asking says readings states) (first_rule rules_after table moment readings states))) (sym is ∙ none)
    ∙ ap (λ x. option_or x (first_rule rules_after table moment readings states)) (sym asks ∙ signed) ∙ sym after ∙ passed

-- ---- if no fault was counted

quiet_by : (says : Says) (table : Table) (moment : ℕ) (readings : List Reading) (states : List State) (faults now : ℕ) (bad : Place)
    → IsVerdict says table moment readings states faults now (Unasked bad) → now ≡ faults → faults ≢ last_count → IsLeftOpen readings states bad
quiet_by says table moment readings states faults now bad (inl h) same below = failed_chain rules_before table moment readings states bad h
quiet_by says table moment readings states faults now bad (inr h) same below =
    let rose : faults < now = h.1 (λ last. below (sym same ∙ last)) in absurd (omega (arith, same, rose))

pub quiet : (says : Says) (table : Table) (moment : ℕ) (readings : List Reading) (states : List State) (faults now : ℕ) (v : Verdict) → IsVerdict says table moment readings states faults now v
    → QuietIs readings states faults now v
quiet says table moment readings states faults now Passed h = λ same below. tt
quiet says table moment readings states faults now (Refused refused) h = λ same below. tt
quiet says table moment readings states faults now (Unread bad) h = λ same below. tt
quiet says table moment readings states faults now (Unasked bad) h = λ same below. quiet_by says table moment readings states faults now bad h same below
