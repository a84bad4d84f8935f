-- If a call is set aside, it may be: the place, and what holds before it.
use Rattle.std.proofs.Common.{◌≡◌, inl, inr, ℕ, ◌≤◌, suc, List, [], ◌∷◌, take, Option, Some, None, refl, sym, ◌∙◌, ap, subst}
use Rattle.std.specs.Prelude.{⊤}
use Rattle.std.specs.List.{slice_get}
use Rattle.std.specs.Option.{option_or}
use Rattle.cert_store.specs.Asking.{FailedAt, IsOpen, Keys, SoFar}
use Rattle.cert_store.specs.ChainMap.{listed}
use Rattle.cert_store.specs.Judged.{JudgedView}
use Rattle.cert_store.specs.declared.judged.Asked.{Asked}
use Rattle.cert_store.specs.declared.judged.Asked.TheVariants.{NotAsked, Yes, No, Failed}
use Rattle.delegation.specs.Coverage.{Table}
use Rattle.verify_rules.specs.Call.{Call, Reading, in_call_order}
use Rattle.verify_rules.specs.Late.{asking, at_rule, by_answer, event_of, first_rule, number, rules_before, tell_judged, tell_long, tell_missing, rule_event}
use Rattle.verify_rules.specs.Rules.{HoldAll, each, early_rules, place}
use Rattle.verify_rules.specs.States.{State, have, no_chain, long, unread}
use Rattle.verify_rules.specs.Verdict.{IsOpenAt}
use Rattle.verify_rules.specs.World.{AreRight, IsOpenAtChain, IsOpenAtPassport, IsRight, MayBeUnasked, MayBeUnread, World, broken_by, certificate_rules, forged, truth_for}
use Rattle.verify_rules.specs.declared.late.Event.{Event}
use Rattle.verify_rules.specs.declared.late.Event.TheVariants as events
use Rattle.verify_rules.specs.declared.late.LateRule.{LateRule}
use Rattle.verify_rules.specs.declared.late.LateRule.TheVariants as late
use Rattle.verify_rules.specs.declared.late.RuleResult.{RuleResult}
use Rattle.verify_rules.specs.declared.late.RuleResult.TheVariants as results
use Rattle.verify_rules.specs.declared.refusal.Place.{Place}
use Rattle.lists.proofs.Options.{or_none}
use Rattle.verify_rules.proofs.FirstOf.{both_none, unread_same}
use Rattle.verify_rules.proofs.ResultLaws.{AsksNothing, IsDefinite, judged_definite, unjudged_definite}
use Rattle.verify_rules.proofs.WorldAgrees.{Agrees, asking_agrees, right_before, state_agrees, rule_event_agrees}
use Rattle.verify_rules.proofs.WorldEvents.{AnsweredLaw, asking_is, broken_event, rule_is, rule_event_is}

-- ---- a rule that gives nothing holds

unbroken_by : (n : ℕ) (bad : Option Place) → Agrees (broken_event n bad) None → bad ≡ None
unbroken_by n None a = refl
unbroken_by n (Some bad) (inl same) = absurd cc
unbroken_by n (Some bad) (inr aside) = absurd aside

unbroken : (n : ℕ) (bad : Option Place) (truth event : Option Event) → truth ≡ broken_event n bad → event ≡ None → Agrees truth event → bad ≡ None
unbroken n bad truth event is none a = unbroken_by n bad (subst (λ x. Agrees x None) is (subst (Agrees truth) none a))

-- of one PASSporT
one_holds : AnsweredLaw → (world : World) (rule : LateRule) (moment : ℕ) (one : Reading) (state : State) → IsRight world one.passport.x5u state
    → at_rule rule world.table moment one state ≡ None → broken_by world rule moment one ≡ None
one_holds law world rule moment one state right none =
    unbroken (number rule) (broken_by world rule moment one) _ _ (rule_is law world rule moment one) none (state_agrees world rule moment one state right)

-- of all
rule_holds : AnsweredLaw → (world : World) (rule : LateRule) (moment : ℕ) (readings : List Reading) (states : List State) → AreRight world readings states
    → rule_event rule world.table moment readings states ≡ None → each (broken_by world rule moment) readings ≡ None
rule_holds law world rule moment readings states right none =
    unbroken (number rule) (each (broken_by world rule moment) readings) _ _ (rule_event_is law world rule moment readings) none (rule_event_agrees world rule moment readings states right)

-- of those before some place, rule 16
genuine_before : AnsweredLaw → (world : World) (readings : List Reading) (states : List State) (at : ℕ) → AreRight world readings states
    → asking world.says (take at readings) (take at states) ≡ None → each (forged world) (take at readings) ≡ None
genuine_before law world readings states at right none =
    unbroken 16 (each (forged world) (take at readings)) _ _ (asking_is law world (take at readings)) none (asking_agrees world (take at readings) (take at states) (right_before world readings states at right))

-- none of these is broken, and then none of those
none_before : (broken : Reading → Option Place) (one : Reading) (others : List Reading) → broken one ≡ None → each broken others ≡ None → each broken (one ∷ others) ≡ None
none_before broken one others here more = ap (λ x. option_or x (each broken others)) here ∙ more

-- ---- unread

record UnreadAt (world : World) (moment : ℕ) (readings : List Reading) (bad : Place) : Type 0 where
  at : ℕ
  here : Reading
  is : slice_get readings at ≡ Some here
  stands : bad ≡ place here.mark.field 0
  name : List ℕ
  named : listed world.chains here.passport.x5u ≡ Some name
  before : each (broken_by world late.Listed moment) (take at readings) ≡ None

unread_later : (world : World) (moment : ℕ) (one : Reading) (others : List Reading) (bad : Place) → broken_by world late.Listed moment one ≡ None
    → UnreadAt world moment others bad → UnreadAt world moment (one ∷ others) bad
unread_later world moment one others bad holds u = record {
  at = suc u.at;
  here = u.here;
  is = u.is;
  stands = u.stands;
  name = u.name;
  named = u.named;
  before = none_before (broken_by world late.Listed moment) one (take u.at others) holds u.before;
}

-- by what the rule makes of the first PASSporT
unread_here : (world : World) (moment : ℕ) (one : Reading) (others : List Reading) (state : State) (bad : Place) (later : Option Event) → AnsweredLaw
    → IsRight world one.passport.x5u state → (later ≡ Some (events.Unread bad) → UnreadAt world moment others bad)
    → option_or (at_rule late.Listed world.table moment one state) later ≡ Some (events.Unread bad) → UnreadAt world moment (one ∷ others) bad
unfolding at_rule
unread_here world moment one others (have judged) bad later law right below h =
    unread_later world moment one others bad (one_holds law world late.Listed moment one (have judged) right refl) (below h)
unread_here world moment one others no_chain bad later law right below h = absurd cc
unread_here world moment one others long bad later law right below h =
    unread_later world moment one others bad (one_holds law world late.Listed moment one long right refl) (below h)
unread_here world moment one others unread bad later law right below h = record {
  at = 0;
  here = one;
  is = refl;
  stands = unread_same (place one.mark.field 0) bad h;
  name = right.0;
  named = right.1;
  before = refl;
}

unread_at : AnsweredLaw → (world : World) (moment : ℕ) (readings : List Reading) (states : List State) (bad : Place) → AreRight world readings states
    → rule_event late.Listed world.table moment readings states ≡ Some (events.Unread bad) → UnreadAt world moment readings bad
unread_at law world moment [] states bad right h = absurd cc
unread_at law world moment (one ∷ others) [] bad right h = absurd right
unread_at law world moment (one ∷ others) (state ∷ states) bad right h =
    unread_here world moment one others state bad (rule_event late.Listed world.table moment others states) law right.0 (unread_at law world moment others states bad right.1) h

pub may_be_unread : AnsweredLaw → (world : World) (call : Call) (states : List State) (bad : Place) → HoldAll early_rules call → AreRight world (in_call_order call) states
    → rule_event late.Listed world.table call.moment (in_call_order call) states ≡ Some (events.Unread bad) → MayBeUnread world call bad
may_be_unread law world call states bad early right h =
    let u = unread_at law world call.moment (in_call_order call) states bad right h in
    record { early = early; at = u.at; here = u.here; is = u.is; stands = u.stands; name = u.name; named = u.named; before = u.before }

-- ---- unasked, at a certificate

record OpenHere (world : World) (one : Reading) (bad : Place) : Type 0 where
  part : ℕ
  some : 1 ≤ part
  stands : bad ≡ place one.mark.field part
  truth : JudgedView
  known : truth_for world one ≡ have truth
  certificates : IsOpen part truth.asked

unasked_same : (a b : Place) → Some (events.Unasked a) ≡ Some (events.Unasked b) → b ≡ a
unasked_same a b e = cc

asked_here : (world : World) (one : Reading) (bad : Place) (truth : JudgedView) (asked : Asked) (keys : Keys) → truth_for world one ≡ have truth → SoFar truth.asked asked → FailedAt keys asked
    → event_of 15 one.mark.field (by_answer asked) ≡ Some (events.Unasked bad) → OpenHere world one bad
asked_here world one bad truth NotAsked keys is so_far question h = absurd cc
asked_here world one bad truth Yes keys is so_far question h = absurd cc
asked_here world one bad truth (No part) keys is so_far question h = absurd cc
asked_here world one bad truth (Failed part) keys is so_far question h = record {
  part = part;
  some = question.some;
  stands = unasked_same (place one.mark.field part) bad h;
  truth = truth;
  known = is;
  certificates = so_far;
}

open_here : (world : World) (moment : ℕ) (one : Reading) (state : State) (bad : Place) → IsRight world one.passport.x5u state
    → at_rule late.Asked world.table moment one state ≡ Some (events.Unasked bad) → OpenHere world one bad
unfolding at_rule
open_here world moment one (have judged) bad (truth, is, j) h = asked_here world one bad truth judged.asked judged.keys is j.so_far j.question h
open_here world moment one no_chain bad right h = absurd cc
open_here world moment one long bad right h = absurd cc
open_here world moment one unread bad right h = absurd cc

record OpenAt (world : World) (moment : ℕ) (readings : List Reading) (bad : Place) : Type 0 where
  at : ℕ
  here : Reading
  is : slice_get readings at ≡ Some here
  opened : OpenHere world here bad
  before : each (broken_by world late.Asked moment) (take at readings) ≡ None

-- by what the rule makes of the first PASSporT
open_by : (world : World) (moment : ℕ) (one : Reading) (others : List Reading) (bad : Place) (event later : Option Event)
    → (event ≡ None → broken_by world late.Asked moment one ≡ None) → (event ≡ Some (events.Unasked bad) → OpenHere world one bad)
    → (later ≡ Some (events.Unasked bad) → OpenAt world moment others bad) → option_or event later ≡ Some (events.Unasked bad) → OpenAt world moment (one ∷ others) bad
open_by world moment one others bad None later holds here below h =
    let o = below h in
    record { at = suc o.at; here = o.here; is = o.is; opened = o.opened; before = none_before (broken_by world late.Asked moment) one (take o.at others) (holds refl) o.before }
open_by world moment one others bad (Some event) later holds here below h =
    record { at = 0; here = one; is = refl; opened = here h; before = refl }

open_at : AnsweredLaw → (world : World) (moment : ℕ) (readings : List Reading) (states : List State) (bad : Place) → AreRight world readings states
    → rule_event late.Asked world.table moment readings states ≡ Some (events.Unasked bad) → OpenAt world moment readings bad
open_at law world moment [] states bad right h = absurd cc
open_at law world moment (one ∷ others) [] bad right h = absurd right
open_at law world moment (one ∷ others) (state ∷ states) bad right h =
    open_by world moment one others bad (at_rule late.Asked world.table moment one state) (rule_event late.Asked world.table moment others states)
    (one_holds law world late.Asked moment one state right.0) (open_here world moment one state bad right.0) (open_at law world moment others states bad right.1) h

-- ---- no rule but 15 leaves a signature open

abbrev IsAnswered : Option Event → Type 0
IsAnswered None = ⊤
IsAnswered (Some (events.Refused refused)) = ⊤
IsAnswered (Some (events.Unread bad)) = ⊤
IsAnswered (Some (events.Unasked bad)) = ⊥

answered_or : (a b : Option Event) → IsAnswered a → IsAnswered b → IsAnswered (option_or a b)
answered_or None b first later = later
answered_or (Some event) b first later = first

definite_answered : (n field : ℕ) (said : RuleResult) → IsDefinite said → IsAnswered (event_of n field said)
definite_answered n field results.Holds d = tt
definite_answered n field (results.Broken part) d = tt
definite_answered n field results.Unknown d = tt
definite_answered n field (results.Unasked part) d = d

one_answered : (rule : LateRule) (table : Table) (moment : ℕ) (one : Reading) (state : State) → AsksNothing rule → IsAnswered (at_rule rule table moment one state)
unfolding at_rule
one_answered rule table moment one (have judged) nothing =
    definite_answered (number rule) one.mark.field (tell_judged rule table moment one judged) (judged_definite rule table moment one judged nothing)
one_answered rule table moment one no_chain nothing = definite_answered (number rule) one.mark.field (tell_missing rule) (unjudged_definite rule).0
one_answered rule table moment one long nothing = definite_answered (number rule) one.mark.field (tell_long rule) (unjudged_definite rule).1
one_answered rule table moment one unread nothing = tt

rule_event_answered : (rule : LateRule) (table : Table) (moment : ℕ) (readings : List Reading) (states : List State) → AsksNothing rule → IsAnswered (rule_event rule table moment readings states)
rule_event_answered rule table moment [] states nothing = tt
rule_event_answered rule table moment (one ∷ others) [] nothing = tt
rule_event_answered rule table moment (one ∷ others) (state ∷ states) nothing =
    answered_or _ _ (one_answered rule table moment one state nothing) (rule_event_answered rule table moment others states nothing)

passed_over : (a b : Option Event) (bad : Place) → IsAnswered a → option_or a b ≡ Some (events.Unasked bad) → (a ≡ None) × (b ≡ Some (events.Unasked bad))
passed_over None b bad answered h = (refl, h)
passed_over (Some (events.Refused refused)) b bad answered h = absurd cc
passed_over (Some (events.Unread other)) b bad answered h = absurd cc
passed_over (Some (events.Unasked other)) b bad answered h = absurd answered

-- what rules 10 to 15 make of the PASSporTs
abbrev tells : World → Call → List State → LateRule → Option Event
tells world call states rule = rule_event rule world.table call.moment (in_call_order call) states

-- rules 10 to 14 make nothing of them, and 15 this
record ComesTo (world : World) (call : Call) (states : List State) (event : Option Event) : Type 0 where
  listing : tells world call states late.Listed ≡ None
  profile : tells world call states late.Profile ≡ None
  shape : tells world call states late.Shape ≡ None
  dates : tells world call states late.Dates ≡ None
  authority : tells world call states late.Authority ≡ None
  asked : tells world call states late.Asked ≡ event

open_comes : (world : World) (call : Call) (states : List State) (bad : Place) → first_rule rules_before world.table call.moment (in_call_order call) states ≡ Some (events.Unasked bad)
    → ComesTo world call states (Some (events.Unasked bad))
open_comes world call states bad h =
    let answered = λ (rule : LateRule) (nothing : AsksNothing rule). rule_event_answered rule world.table call.moment (in_call_order call) states nothing in
    let a = passed_over (tells world call states late.Listed) _ bad (answered late.Listed tt) h in
    let b = passed_over (tells world call states late.Profile) _ bad (answered late.Profile tt) a.1 in
    let c = passed_over (tells world call states late.Shape) _ bad (answered late.Shape tt) b.1 in
    let d = passed_over (tells world call states late.Dates) _ bad (answered late.Dates tt) c.1 in
    let e = passed_over (tells world call states late.Authority) _ bad (answered late.Authority tt) d.1 in
    record { listing = a.0; profile = b.0; shape = c.0; dates = d.0; authority = e.0; asked = sym (or_none (tells world call states late.Asked)) ∙ e.1 }

none_comes : (world : World) (call : Call) (states : List State) → first_rule rules_before world.table call.moment (in_call_order call) states ≡ None → ComesTo world call states None
none_comes world call states h =
    let a = both_none (tells world call states late.Listed) _ h in
    let b = both_none (tells world call states late.Profile) _ a.1 in
    let c = both_none (tells world call states late.Shape) _ b.1 in
    let d = both_none (tells world call states late.Dates) _ c.1 in
    let e = both_none (tells world call states late.Authority) _ d.1 in
    record { listing = a.0; profile = b.0; shape = c.0; dates = d.0; authority = e.0; asked = sym (or_none (tells world call states late.Asked)) ∙ e.1 }

chains_hold : AnsweredLaw → (world : World) (call : Call) (states : List State) (event : Option Event) → AreRight world (in_call_order call) states → ComesTo world call states event
    → HoldAll (certificate_rules world) call
chains_hold law world call states event right comes = (
  rule_holds law world late.Listed call.moment (in_call_order call) states right comes.listing,
  (
    rule_holds law world late.Profile call.moment (in_call_order call) states right comes.profile,
    (
      rule_holds law world late.Shape call.moment (in_call_order call) states right comes.shape,
      (
        rule_holds law world late.Dates call.moment (in_call_order call) states right comes.dates,
        (rule_holds law world late.Authority call.moment (in_call_order call) states right comes.authority, tt),
      ),
    ),
  ),
)

-- ---- unasked

open_chain : AnsweredLaw → (world : World) (call : Call) (states : List State) (bad : Place) → AreRight world (in_call_order call) states
    → ComesTo world call states (Some (events.Unasked bad)) → IsOpenAtChain world call bad
open_chain law world call states bad right comes =
    let o = open_at law world call.moment (in_call_order call) states bad right comes.asked in
    record {
      at = o.at;
      here = o.here;
      is = o.is;
      part = o.opened.part;
      some = o.opened.some;
      stands = o.opened.stands;
      before = o.before;
      truth = o.opened.truth;
      known = o.opened.known;
      certificates = o.opened.certificates;
    }

open_passport : AnsweredLaw → (world : World) (call : Call) (states : List State) (bad : Place) → AreRight world (in_call_order call) states
    → ComesTo world call states None → IsOpenAt world.says (in_call_order call) states bad → IsOpenAtPassport world call bad
open_passport law world call states bad right comes o = record {
  at = o.at;
  here = o.here;
  is = o.is;
  stands = o.place;
  signed = rule_holds law world late.Asked call.moment (in_call_order call) states right comes.asked;
  before = genuine_before law world (in_call_order call) states o.at right o.before;
}

pub may_be_unasked : AnsweredLaw → (world : World) (call : Call) (states : List State) (bad : Place) → HoldAll early_rules call → AreRight world (in_call_order call) states
    → first_rule rules_before world.table call.moment (in_call_order call) states ≡ Some (events.Unasked bad) → MayBeUnasked world call bad
may_be_unasked law world call states bad early right h =
    let comes = open_comes world call states bad h in
    record { early = early; chains = chains_hold law world call states _ right comes; signatures = inl (open_chain law world call states bad right comes) }

pub may_be_unasked_here : AnsweredLaw → (world : World) (call : Call) (states : List State) (bad : Place) → HoldAll early_rules call → AreRight world (in_call_order call) states
    → first_rule rules_before world.table call.moment (in_call_order call) states ≡ None → IsOpenAt world.says (in_call_order call) states bad → MayBeUnasked world call bad
may_be_unasked_here law world call states bad early right h o =
    let comes = none_comes world call states h in
    record { early = early; chains = chains_hold law world call states _ right comes; signatures = inr (open_passport law world call states bad right comes o) }
