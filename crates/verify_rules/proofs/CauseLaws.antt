-- What a call is set aside for is in the chains that are handed in, or is a question that failed.
use Rattle.std.proofs.Common.{◌≡◌, ◌≢◌, inl, inr, ℕ, List, Some, refl, ap, arith}
use Rattle.std.specs.List.{slice_get}
use Rattle.stir_outside.specs.Count.{last_count}
use Rattle.cert_store.specs.Rules.{Says}
use Rattle.delegation.specs.Coverage.{Table}
use Rattle.verify_rules.specs.Call.{Reading}
use Rattle.verify_rules.specs.Causes.{IsCaused, IsUnknownAt}
use Rattle.verify_rules.specs.Late.{at_rule, first_rule, rules_before, rule_event}
use Rattle.verify_rules.specs.Rules.{place}
use Rattle.verify_rules.specs.States.{State, have, no_chain, long, unread}
use Rattle.verify_rules.specs.Verdict.{IsLeftOpen, IsVerdict}
use Rattle.verify_rules.specs.declared.late.Event.TheVariants as events
use Rattle.verify_rules.specs.declared.late.LateRule.TheVariants as late
use Rattle.verify_rules.specs.declared.refusal.Place.{Place}
use Rattle.verify_rules.specs.declared.verdict.Verdict.{Verdict}
use Rattle.verify_rules.specs.declared.verdict.Verdict.TheVariants.{Passed, Refused, Unread, Unasked}
use Rattle.verify_rules.proofs.FirstOf.{found, unread_same}
use Rattle.verify_rules.proofs.VerdictLaws.{quiet}

unknown_here : (table : Table) (moment : ℕ) (readings : List Reading) (states : List State) (i : ℕ) (one : Reading) (state : State) (bad : Place) → slice_get readings i ≡ Some one
    → slice_get states i ≡ Some state → at_rule late.Listed table moment one state ≡ Some (events.Unread bad) → IsUnknownAt readings states bad
unfolding at_rule
unknown_here table moment readings states i one (have judged) bad e f h = absurd cc
unknown_here table moment readings states i one no_chain bad e f h = absurd cc
unknown_here table moment readings states i one long bad e f h = absurd cc
unknown_here table moment readings states i one unread bad e f h =
    record { at = i; here = one; is = e; chain = f; stands = unread_same (place one.mark.field 0) bad h }

unknown_at : (table : Table) (moment : ℕ) (readings : List Reading) (states : List State) (bad : Place) → rule_event late.Listed table moment readings states ≡ Some (events.Unread bad)
    → IsUnknownAt readings states bad
unknown_at table moment readings states bad h =
    let f = found (at_rule late.Listed table moment) readings states (events.Unread bad) h in
    unknown_here table moment readings states f.index f.one f.state bad f.is f.chain f.gives

first_is_not_last : 0 ≢ last_count
first_is_not_last e = absurd (omega (arith, e))

left_open_by : (says : Says) (table : Table) (moment : ℕ) (readings : List Reading) (states : List State) (bad : Place)
    → first_rule rules_before table moment readings states ≡ Some (events.Unasked bad) → IsLeftOpen readings states bad
left_open_by says table moment readings states bad h = quiet says table moment readings states 0 0 (Unasked bad) (inl h) refl first_is_not_last

-- each verdict says what it leaves open
pub caused : (says : Says) (table : Table) (moment : ℕ) (readings : List Reading) (states : List State) (faults faults_now : ℕ) (verdict : Verdict)
    → IsVerdict says table moment readings states faults faults_now verdict → IsCaused readings states faults faults_now verdict
caused says table moment readings states faults faults_now Passed h = tt
caused says table moment readings states faults faults_now (Refused refused) h = tt
caused says table moment readings states faults faults_now (Unread bad) h = unknown_at table moment readings states bad h
caused says table moment readings states faults faults_now (Unasked bad) (inl h) = inl (left_open_by says table moment readings states bad h)
caused says table moment readings states faults faults_now (Unasked bad) (inr h) =
    inr (record { rose = h.1; part = ap (λ (p : Place). p.part) h.2.place })
