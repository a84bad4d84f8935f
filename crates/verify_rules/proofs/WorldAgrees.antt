-- What is known of the chains leads to the same first event as what there is to know, or the call is set aside.
use Rattle.std.proofs.Common.{◌≡◌, ◌⊎◌, inl, inr, ℕ, List, [], ◌∷◌, take, zero, suc, Option, Some, None, refl, sym, ◌∙◌, ap, subst}
use Rattle.std.specs.List.{slice_get}
use Rattle.std.specs.Option.{option_or}
use Rattle.cert_store.specs.Asking.{SoFar}
use Rattle.cert_store.specs.Judged.{JudgedAs, JudgedView}
use Rattle.cert_store.specs.declared.judged.Asked.{Asked}
use Rattle.cert_store.specs.declared.judged.Asked.TheVariants.{NotAsked, Yes, No, Failed}
use Rattle.delegation.specs.Coverage.{Table}
use Rattle.verify_rules.specs.Call.{Reading}
use Rattle.verify_rules.specs.Late.{asking, at_asking, at_rule, by_answer, event_of, first_event, first_rule, is_signed_by, number, rules_after, rules_before, tell, tell_judged, rule_event, unless_signed}
use Rattle.verify_rules.specs.States.{State, have, no_chain, long, unread}
use Rattle.verify_rules.specs.World.{AreRight, IsRight, World, truth_for, truths}
use Rattle.verify_rules.specs.declared.late.Event.{Event}
use Rattle.verify_rules.specs.declared.late.LateRule.{LateRule}
use Rattle.verify_rules.specs.declared.late.LateRule.TheVariants as late
use Rattle.verify_rules.proofs.ResultLaws.{IsSetAside}

-- ---- the same event, or one that sets aside

abbrev pub Agrees : Option Event → Option Event → Type 0
Agrees truth event = (truth ≡ event) ⊎ IsSetAside event

agrees_or : (truth later event others : Option Event) → Agrees truth event → Agrees later others → Agrees (option_or truth later) (option_or event others)
agrees_or truth later None others (inl same) (inl more) = inl (ap (λ x. option_or x later) same ∙ more)
agrees_or truth later None others (inl same) (inr aside) = inr aside
agrees_or truth later None others (inr aside) more = absurd aside
agrees_or truth later (Some event) others (inl same) more = inl (ap (λ x. option_or x later) same)
agrees_or truth later (Some event) others (inr aside) more = inr aside

-- ---- one PASSporT

answer_agrees : (field : ℕ) (truth asked : Asked) → SoFar truth asked → Agrees (event_of 15 field (by_answer truth)) (event_of 15 field (by_answer asked))
answer_agrees field truth NotAsked same = inl (ap (λ x. event_of 15 field (by_answer x)) same)
answer_agrees field truth Yes same = inl (ap (λ x. event_of 15 field (by_answer x)) same)
answer_agrees field truth (No part) same = inl (ap (λ x. event_of 15 field (by_answer x)) same)
answer_agrees field truth (Failed part) same = inr tt

-- what is answered by a rule on a judged chain
abbrev judged_event : LateRule → Table → ℕ → Reading → JudgedView → Option Event
judged_event rule table moment one judged = event_of (number rule) one.mark.field (tell_judged rule table moment one judged)

judged_agrees : (rule : LateRule) (table : Table) (moment : ℕ) (one : Reading) (truth judged : JudgedView) → JudgedAs truth judged
    → Agrees (judged_event rule table moment one truth) (judged_event rule table moment one judged)
judged_agrees late.Asked table moment one truth judged j = answer_agrees one.mark.field truth.asked judged.asked j.so_far
judged_agrees rule table moment one truth judged j = inl (ap (judged_event rule table moment one) (sym j.same))

pub state_agrees : (world : World) (rule : LateRule) (moment : ℕ) (one : Reading) (state : State) → IsRight world one.passport.x5u state
    → Agrees (at_rule rule world.table moment one (truth_for world one)) (at_rule rule world.table moment one state)
unfolding at_rule
state_agrees world rule moment one (have judged) (truth, is, j) =
    let P : State → Type 0 = λ s. Agrees (event_of (number rule) one.mark.field (tell rule world.table moment one s)) (judged_event rule world.table moment one judged) in
    subst P (sym is) (judged_agrees rule world.table moment one truth judged j)
state_agrees world rule moment one no_chain is = inl (ap (λ s. event_of (number rule) one.mark.field (tell rule world.table moment one s)) is)
state_agrees world rule moment one long is = inl (ap (λ s. event_of (number rule) one.mark.field (tell rule world.table moment one s)) is)
state_agrees world rule moment one unread named = inr tt

signed_agrees : (world : World) (one : Reading) (state : State) → IsRight world one.passport.x5u state
    → Agrees (at_asking world.says one (truth_for world one)) (at_asking world.says one state)
unfolding at_asking
signed_agrees world one (have judged) (truth, is, j) =
    inl (ap (at_asking world.says one) is ∙ ap (λ (x : JudgedView). unless_signed one.mark.field (is_signed_by world.says one (slice_get x.certificates 0))) (sym j.same))
signed_agrees world one no_chain is = inl (ap (at_asking world.says one) is)
signed_agrees world one long is = inl (ap (at_asking world.says one) is)
signed_agrees world one unread named = inr tt

-- ---- all PASSporTs

pub rule_event_agrees : (world : World) (rule : LateRule) (moment : ℕ) (readings : List Reading) (states : List State) → AreRight world readings states
    → Agrees (rule_event rule world.table moment readings (truths world readings)) (rule_event rule world.table moment readings states)
rule_event_agrees world rule moment [] [] right = inl refl
rule_event_agrees world rule moment [] (state ∷ states) right = absurd right
rule_event_agrees world rule moment (one ∷ others) [] right = absurd right
rule_event_agrees world rule moment (one ∷ others) (state ∷ states) right =
    agrees_or _ _ _ _ (state_agrees world rule moment one state right.0) (rule_event_agrees world rule moment others states right.1)

pub asking_agrees : (world : World) (readings : List Reading) (states : List State) → AreRight world readings states
    → Agrees (asking world.says readings (truths world readings)) (asking world.says readings states)
asking_agrees world [] [] right = inl refl
asking_agrees world [] (state ∷ states) right = absurd right
asking_agrees world (one ∷ others) [] right = absurd right
asking_agrees world (one ∷ others) (state ∷ states) right = agrees_or _ _ _ _ (signed_agrees world one state right.0) (asking_agrees world others states right.1)

-- ---- the rules one after another

rules_agree : (world : World) (moment : ℕ) (readings : List Reading) (states : List State) (rules : List LateRule) → AreRight world readings states
    → Agrees (first_rule rules world.table moment readings (truths world readings)) (first_rule rules world.table moment readings states)
rules_agree world moment readings states [] right = inl refl
rules_agree world moment readings states (rule ∷ rules) right =
    agrees_or _ _ _ _ (rule_event_agrees world rule moment readings states right) (rules_agree world moment readings states rules right)

pub first_agrees : (world : World) (moment : ℕ) (readings : List Reading) (states : List State) → AreRight world readings states
    → Agrees (first_event world.says world.table moment readings (truths world readings)) (first_event world.says world.table moment readings states)
first_agrees world moment readings states right =
    agrees_or _ _ _ _ (rules_agree world moment readings states rules_before right)
    (agrees_or _ _ _ _ (asking_agrees world readings states right) (rules_agree world moment readings states rules_after right))

-- ---- those before some place

pub right_before : (world : World) (readings : List Reading) (states : List State) (at : ℕ) → AreRight world readings states → AreRight world (take at readings) (take at states)
right_before world readings states zero right = tt
right_before world [] [] (suc at) right = tt
right_before world [] (state ∷ states) (suc at) right = absurd right
right_before world (one ∷ others) [] (suc at) right = absurd right
right_before world (one ∷ others) (state ∷ states) (suc at) right = (right.0, right_before world others states at right.1)
