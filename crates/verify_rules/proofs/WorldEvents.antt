-- Over what there is to know of the chains, the first event is the first broken rule: no chain is unknown, and no question unanswered.
use Rattle.std.proofs.Common.{◌≡◌, ◌≢◌, ℕ, nat_lt, Bool, true, false, cond, List, [], ◌∷◌, ◌++◌, map, length, Option, Some, None, refl, sym, ◌∙◌, ap}
use Rattle.std.specs.Prelude.{⊤}
use Rattle.std.specs.List.{slice_get}
use Rattle.std.specs.Option.{option_or}
use Rattle.cert_store.specs.Judged.{JudgedView, judged_of}
use Rattle.cert_store.specs.Rules.{Says}
use Rattle.cert_store.specs.declared.judged.Asked.{Asked}
use Rattle.cert_store.specs.declared.judged.Asked.TheVariants.{NotAsked, Yes, No, Failed}
use Rattle.delegation.specs.Coverage.{Table}
use Rattle.x509_profile.specs.View.{CertView}
use Rattle.verify_rules.specs.Call.{Call, Reading, in_call_order}
use Rattle.verify_rules.specs.Late.{asking, at_asking, at_rule, by_answer, event_of, first_event, first_rule, is_signed_by, number, rules_after, rules_before, tell, rule_event, unless_signed}
use Rattle.verify_rules.specs.Rules.{Rule, each, first, or_later, refusal}
use Rattle.verify_rules.specs.States.{State, have, no_chain, long, unread}
use Rattle.verify_rules.specs.World.{World, asking_rule, broken_by, content_of, forged, forged_by, late_rule, late_rules, part_at, truth_by, truth_for, truth_of, truths, unless_good}
use Rattle.verify_rules.specs.declared.late.Event.{Event}
use Rattle.verify_rules.specs.declared.late.Event.TheVariants as events
use Rattle.verify_rules.specs.declared.late.LateRule.{LateRule}
use Rattle.verify_rules.specs.declared.late.LateRule.TheVariants as late
use Rattle.verify_rules.specs.declared.late.RuleResult.{RuleResult}
use Rattle.verify_rules.specs.declared.late.RuleResult.TheVariants as results
use Rattle.verify_rules.specs.declared.refusal.Place.{Place}
use Rattle.verify_rules.specs.declared.refusal.Refusal.{Refusal}
use Rattle.verify_rules.proofs.ResultLaws.{IsDefinite, judged_definite, unjudged_definite}

-- what the rules on a chain say leaves no question unanswered
abbrev pub AnsweredLaw : Type 0
AnsweredLaw = (anchors : List CertView) (table : Table) (says : Says) (bytes : List ℕ) (part : ℕ) → (judged_of anchors table says bytes).asked ≢ Failed part

-- ---- what there is to know is known

abbrev IsKnown : State → Type 0
IsKnown (have judged) = (part : ℕ) → judged.asked ≢ Failed part
IsKnown no_chain = ⊤
IsKnown long = ⊤
IsKnown unread = ⊥

known_by : AnsweredLaw → (world : World) (bytes : List ℕ) (t : Bool) → IsKnown (cond t long (have (judged_of world.anchors world.table world.says bytes)))
known_by law world bytes true = tt
known_by law world bytes false = law world.anchors world.table world.says bytes

content_known : AnsweredLaw → (world : World) (content : Option (List ℕ)) → IsKnown (truth_by world content)
content_known law world None = tt
content_known law world (Some bytes) = known_by law world bytes (nat_lt 49152 (length bytes))

truth_known : AnsweredLaw → (world : World) (x5u : List ℕ) → IsKnown (truth_of world x5u)
unfolding truth_of
truth_known law world x5u = content_known law world (content_of world x5u)

-- ---- so a rule holds or is broken

answer_definite : (asked : Asked) → ((part : ℕ) → asked ≢ Failed part) → IsDefinite (by_answer asked)
answer_definite NotAsked answered = tt
answer_definite Yes answered = tt
answer_definite (No part) answered = tt
answer_definite (Failed part) answered = absurd (answered part refl)

answered_definite : (rule : LateRule) (table : Table) (moment : ℕ) (one : Reading) (judged : JudgedView) → ((part : ℕ) → judged.asked ≢ Failed part) → IsDefinite (tell rule table moment one (have judged))
answered_definite late.Asked table moment one judged answered = answer_definite judged.asked answered
answered_definite rule table moment one judged answered = judged_definite rule table moment one judged tt

definite : (rule : LateRule) (table : Table) (moment : ℕ) (one : Reading) (state : State) → IsKnown state → IsDefinite (tell rule table moment one state)
definite rule table moment one (have judged) known = answered_definite rule table moment one judged known
definite rule table moment one no_chain known = (unjudged_definite rule).0
definite rule table moment one long known = (unjudged_definite rule).1
definite rule table moment one unread known = absurd known

-- ---- the event of a broken rule

abbrev pub broken_event : ℕ → Option Place → Option Event
broken_event n None = None
broken_event n (Some bad) = Some (events.Refused (refusal n bad))

abbrev pub refused_event : Option Refusal → Option Event
refused_event None = None
refused_event (Some refused) = Some (events.Refused refused)

event_is : (n field : ℕ) (said : RuleResult) → IsDefinite said → event_of n field said ≡ broken_event n (part_at field said)
event_is n field results.Holds d = refl
event_is n field (results.Broken part) d = refl
event_is n field results.Unknown d = absurd d
event_is n field (results.Unasked part) d = absurd d

-- ---- one PASSporT

pub rule_is : AnsweredLaw → (world : World) (rule : LateRule) (moment : ℕ) (one : Reading)
    → at_rule rule world.table moment one (truth_for world one) ≡ broken_event (number rule) (broken_by world rule moment one)
unfolding at_rule broken_by
rule_is law world rule moment one =
    event_is (number rule) one.mark.field (tell rule world.table moment one (truth_for world one)) (definite rule world.table moment one (truth_for world one) (truth_known law world one.passport.x5u))

signed_is : (field : ℕ) (t : Bool) → unless_signed field t ≡ broken_event 16 (unless_good field t)
signed_is field true = refl
signed_is field false = refl

forged_is : (world : World) (one : Reading) (state : State) → IsKnown state → at_asking world.says one state ≡ broken_event 16 (forged_by world one state)
unfolding at_asking
forged_is world one (have judged) known = signed_is one.mark.field (is_signed_by world.says one (slice_get judged.certificates 0))
forged_is world one no_chain known = refl
forged_is world one long known = refl
forged_is world one unread known = absurd known

genuine_is : AnsweredLaw → (world : World) (one : Reading) → at_asking world.says one (truth_for world one) ≡ broken_event 16 (forged world one)
unfolding forged
genuine_is law world one = forged_is world one (truth_for world one) (truth_known law world one.passport.x5u)

-- ---- all PASSporTs

joined : (n : ℕ) (a b : Option Place) → option_or (broken_event n a) (broken_event n b) ≡ broken_event n (option_or a b)
joined n None b = refl
joined n (Some bad) b = refl

pub rule_event_is : AnsweredLaw → (world : World) (rule : LateRule) (moment : ℕ) (readings : List Reading)
    → rule_event rule world.table moment readings (truths world readings) ≡ broken_event (number rule) (each (broken_by world rule moment) readings)
rule_event_is law world rule moment [] = refl
rule_event_is law world rule moment (one ∷ others) =
    ap (λ x. option_or x (rule_event rule world.table moment others (truths world others))) (rule_is law world rule moment one)
    ∙ ap (option_or (broken_event (number rule) (broken_by world rule moment one))) (rule_event_is law world rule moment others)
    ∙ joined (number rule) (broken_by world rule moment one) (each (broken_by world rule moment) others)

pub asking_is : AnsweredLaw → (world : World) (readings : List Reading) → asking world.says readings (truths world readings) ≡ broken_event 16 (each (forged world) readings)
asking_is law world [] = refl
asking_is law world (one ∷ others) =
    ap (λ x. option_or x (asking world.says others (truths world others))) (genuine_is law world one)
    ∙ ap (option_or (broken_event 16 (forged world one))) (asking_is law world others)
    ∙ joined 16 (forged world one) (each (forged world) others)

-- ---- the rules one after another

later_or : (n : ℕ) (bad : Option Place) (later : Option Refusal) → option_or (broken_event n bad) (refused_event later) ≡ refused_event (or_later n bad later)
later_or n None later = refl
later_or n (Some bad) later = refl

rules_are : AnsweredLaw → (world : World) (call : Call) (rules : List LateRule)
    → first_rule rules world.table call.moment (in_call_order call) (truths world (in_call_order call)) ≡ refused_event (first (map (late_rule world) rules) call)
rules_are law world call [] = refl
rules_are law world call (rule ∷ rules) =
    ap (λ x. option_or x (first_rule rules world.table call.moment (in_call_order call) (truths world (in_call_order call)))) (rule_event_is law world rule call.moment (in_call_order call))
    ∙ ap (option_or (broken_event (number rule) (each (broken_by world rule call.moment) (in_call_order call)))) (rules_are law world call rules)
    ∙ later_or (number rule) (each (broken_by world rule call.moment) (in_call_order call)) (first (map (late_rule world) rules) call)

behind : (n : ℕ) (bad : Option Place) (a b : Option Refusal) → or_later n bad (option_or a b) ≡ option_or (or_later n bad a) b
behind n None a b = refl
behind n (Some bad) a b = refl

-- rules after these are tried if none of these is broken
pub first_append : (xs ys : List Rule) (call : Call) → first (xs ++ ys) call ≡ option_or (first xs call) (first ys call)
first_append [] ys call = refl
first_append (rule ∷ xs) ys call =
    ap (or_later rule.number (rule.broken call)) (first_append xs ys call) ∙ behind rule.number (rule.broken call) (first xs call) (first ys call)

both_refused : (a b : Option Refusal) → option_or (refused_event a) (refused_event b) ≡ refused_event (option_or a b)
both_refused None b = refl
both_refused (Some refused) b = refl

-- the first event over what there is to know is the first broken one of the rules of the chains
pub late_first : AnsweredLaw → (world : World) (call : Call)
    → first_event world.says world.table call.moment (in_call_order call) (truths world (in_call_order call)) ≡ refused_event (first (late_rules world) call)
late_first law world call =
    let before : Option Refusal = first (map (late_rule world) rules_before) call in
    let after : Option Refusal = first (map (late_rule world) rules_after) call in
    let behind_it : Option Event = first_rule rules_after world.table call.moment (in_call_order call) (truths world (in_call_order call)) in
    let asked : Option Event = asking world.says (in_call_order call) (truths world (in_call_order call)) in
    let forgery : Option Place = each (forged world) (in_call_order call) in
    ap (λ x. option_or x (option_or asked behind_it)) (rules_are law world call rules_before)
    ∙ ap (option_or (refused_event before))
    (ap (λ x. option_or x behind_it) (asking_is law world (in_call_order call)) ∙ ap (option_or (broken_event 16 forgery)) (rules_are law world call rules_after) ∙ later_or 16 forgery after)
    ∙ both_refused before (or_later 16 forgery after)
    ∙ ap refused_event (sym (first_append (map (late_rule world) rules_before) (asking_rule world ∷ map (late_rule world) rules_after) call))
