-- What the rules of the chains come to over the chains that were handed in.
use Rattle.std.specs.Prelude.{◌≡◌, ◌≢◌, ⊤, ◌⊎◌, ℕ, List, take, Some, None, IsSome}
use Rattle.std.specs.List.{slice_get}
use Rattle.stir_outside.specs.Count.{Rose, last_count}
use Rattle.cert_store.specs.Judged.{JudgedView}
use Rattle.cert_store.specs.Rules.{Says}
use Rattle.cert_store.specs.declared.judged.Asked.TheVariants.{Failed}
use Rattle.delegation.specs.Coverage.{Table}
use Rattle.verify_rules.specs.Call.{Reading}
use Rattle.verify_rules.specs.Late.{asking, first_event, first_rule, rules_before, rule_event}
use Rattle.verify_rules.specs.Rules.{place}
use Rattle.verify_rules.specs.States.{State, have, no_chain, long, unread}
use Rattle.verify_rules.specs.declared.late.Event.{Event}
use Rattle.verify_rules.specs.declared.late.Event.TheVariants as events
use Rattle.verify_rules.specs.declared.late.LateRule.TheVariants as late
use Rattle.verify_rules.specs.declared.refusal.Place.{Place}
use Rattle.verify_rules.specs.declared.verdict.Verdict.{Verdict}
use Rattle.verify_rules.specs.declared.verdict.Verdict.TheVariants.{Passed, Refused, Unread, Unasked}

-- what is answered at an event
abbrev pub verdict_of : Event → Verdict
verdict_of (events.Refused refused) = Refused refused
verdict_of (events.Unread bad) = Unread bad
verdict_of (events.Unasked bad) = Unasked bad

-- there is a leaf, under whose key the signature of the PASSporT is asked for
abbrev pub HasLeaf : State → Type 0
HasLeaf (have judged) = IsSome (slice_get judged.certificates 0)
HasLeaf no_chain = ⊥
HasLeaf long = ⊥
HasLeaf unread = ⊥

-- the signature of the PASSporT at some index was asked for and the provider failed; the signatures of those before it
-- are good
pub record IsOpenAt (says : Says) (readings : List Reading) (states : List State) (bad : Place) : Type 0 where
  pub at : ℕ
  pub here : Reading
  pub is : slice_get readings at ≡ Some here
  pub place : bad ≡ place here.mark.field 0
  pub state : State
  pub chain : slice_get states at ≡ Some state
  pub asked : HasLeaf state
  pub before : asking says (take at readings) (take at states) ≡ None

-- Passed if the rules of the chains hold; refused by the first that is broken, before anything is left open; unread if
-- rule 10 is tried on a chain that isn't known; and unasked if rule 15 meets a signature whose question failed, or a
-- question of rule 16 failed in this call
abbrev pub IsVerdict : Says → Table → ℕ → List Reading → List State → ℕ → ℕ → Verdict → Type 0
IsVerdict says table moment readings states faults faults_now Passed =
    first_event says table moment readings states ≡ None
IsVerdict says table moment readings states faults faults_now (Refused refused) =
    first_event says table moment readings states ≡ Some (events.Refused refused)
IsVerdict says table moment readings states faults faults_now (Unread bad) =
    rule_event late.Listed table moment readings states ≡ Some (events.Unread bad)
IsVerdict says table moment readings states faults faults_now (Unasked bad) =
    (first_rule rules_before table moment readings states ≡ Some (events.Unasked bad))
    ⊎ ((first_rule rules_before table moment readings states ≡ None) × Rose faults faults_now
    × IsOpenAt says readings states bad)

-- the provider failed at the signature of a certificate when the chain of the PASSporT at some index was judged
pub record IsLeftOpen (readings : List Reading) (states : List State) (bad : Place) : Type 0 where
  pub at : ℕ
  pub here : Reading
  pub is : slice_get readings at ≡ Some here
  pub judged : JudgedView
  pub chain : slice_get states at ≡ Some (have judged)
  pub part : ℕ
  pub failed : judged.asked ≡ Failed part
  pub place : bad ≡ place here.mark.field part

-- only a chain that was handed in leaves an answer open
abbrev pub OfChainsAlone : List Reading → List State → Verdict → Type 0
OfChainsAlone readings states Passed = ⊤
OfChainsAlone readings states (Refused refused) = ⊤
OfChainsAlone readings states (Unread bad) = ⊤
OfChainsAlone readings states (Unasked bad) = IsLeftOpen readings states bad

-- a provider whose count of faults stays as it was, below its last value, answered every question
abbrev pub QuietIs : List Reading → List State → ℕ → ℕ → Verdict → Type 0
QuietIs readings states faults faults_now verdict = faults_now ≡ faults → faults ≢ last_count
    → OfChainsAlone readings states verdict
