-- A refusal by one of rules 10 to 15 doesn't depend on what a provider says of the PASSporTs' own signatures.
use Rattle.std.proofs.Common.{◌≡◌, ℕ, ◌≤◌, nat_lt, Bool, true, false, List, [], ◌∷◌, Option, Some, None, ◌⊎◌, inl, inr, refl, sym, ◌∙◌, ap, subst, arith}
use Rattle.std.specs.List.{list_all, slice_get}
use Rattle.std.specs.Option.{option_or}
use Rattle.std.proofs.lemmas.Bool.{and_parts}
use Rattle.std.proofs.lemmas.Bool.Decides.{nat_tests}
use Rattle.cert_store.specs.Rules.{Says}
use Rattle.delegation.specs.Coverage.{Table}
use Rattle.verify_rules.specs.Call.{Reading}
use Rattle.verify_rules.specs.Late.{asking, at_asking, at_rule, event_of, first_event, first_rule, is_signed_by, number, rule_event, rules_after, rules_before, tell, unless_signed}
use Rattle.verify_rules.specs.Rules.{place, refusal}
use Rattle.verify_rules.specs.States.{State, have, no_chain, long, unread}
use Rattle.verify_rules.specs.declared.late.Event.{Event}
use Rattle.verify_rules.specs.declared.late.Event.TheVariants as events
use Rattle.verify_rules.specs.declared.late.LateRule.{LateRule}
use Rattle.verify_rules.specs.declared.late.RuleResult.{RuleResult}
use Rattle.verify_rules.specs.declared.late.RuleResult.TheVariants as results
use Rattle.verify_rules.specs.declared.refusal.Refusal.{Refusal}
use Rattle.verify_rules.proofs.FirstOf.{found}

-- ---- the number of a refusal is that of its rule

event_number : (n field : ℕ) (said : RuleResult) (refused : Refusal) → event_of n field said ≡ Some (events.Refused refused) → refused.rule ≡ n
event_number n field results.Holds refused e = absurd (cc)
event_number n field (results.Broken part) refused e =
    let same : refusal n (place field part) ≡ refused = cc in
    sym (ap (λ (r : Refusal). r.rule) same)
event_number n field results.Unknown refused e = absurd (cc)
event_number n field (results.Unasked part) refused e = absurd (cc)

rule_here : (rule : LateRule) (table : Table) (moment : ℕ) (one : Reading) (state : State) (refused : Refusal) → at_rule rule table moment one state ≡ Some (events.Refused refused)
    → refused.rule ≡ number rule
unfolding at_rule
rule_here rule table moment one state refused e = event_number (number rule) one.mark.field (tell rule table moment one state) refused e

rule_number : (rule : LateRule) (table : Table) (moment : ℕ) (readings : List Reading) (states : List State) (refused : Refusal)
    → rule_event rule table moment readings states ≡ Some (events.Refused refused) → refused.rule ≡ number rule
rule_number rule table moment readings states refused e =
    let f = found (at_rule rule table moment) readings states (events.Refused refused) e in
    rule_here rule table moment f.one f.state refused f.gives

signed_number : (field : ℕ) (t : Bool) (refused : Refusal) → unless_signed field t ≡ Some (events.Refused refused) → refused.rule ≡ 16
signed_number field true refused e = absurd (cc)
signed_number field false refused e =
    let same : refusal 16 (place field 0) ≡ refused = cc in
    sym (ap (λ (r : Refusal). r.rule) same)

asking_here : (says : Says) (one : Reading) (state : State) (refused : Refusal) → at_asking says one state ≡ Some (events.Refused refused) → refused.rule ≡ 16
unfolding at_asking
asking_here says one (have judged) refused e = signed_number one.mark.field (is_signed_by says one (slice_get judged.certificates 0)) refused e
asking_here says one no_chain refused e = absurd (cc)
asking_here says one long refused e = absurd (cc)
asking_here says one unread refused e = absurd (cc)

asking_number : (says : Says) (readings : List Reading) (states : List State) (refused : Refusal) → asking says readings states ≡ Some (events.Refused refused) → refused.rule ≡ 16
asking_number says readings states refused e =
    let f = found (at_asking says) readings states (events.Refused refused) e in
    asking_here says f.one f.state refused f.gives

-- ---- one after another

or_cases : (a b : Option Event) (e : Event) → option_or a b ≡ Some e → (a ≡ Some e) ⊎ ((a ≡ None) × (b ≡ Some e))
or_cases None b e is = inr (refl, is)
or_cases (Some a) b e is = inl is

-- the numbers of these rules are above 15
abbrev are_late : List LateRule → Bool
are_late rules = list_all (λ rule. nat_lt 15 (number rule)) rules

above : (n : ℕ) → nat_lt 15 n ≡ true → 16 ≤ n
above n less = grind (arith, nat_tests)

after_number : (table : Table) (moment : ℕ) (readings : List Reading) (states : List State) (refused : Refusal) (rules : List LateRule) → are_late rules ≡ true
    → first_rule rules table moment readings states ≡ Some (events.Refused refused) → 16 ≤ refused.rule
after_number table moment readings states refused [] late e = absurd (cc)
after_number table moment readings states refused (rule ∷ rules) late e =
    let parts = and_parts (nat_lt 15 (number rule)) (are_late rules) late in
    elim (or_cases (rule_event rule table moment readings states) (first_rule rules table moment readings states) (events.Refused refused) e) [
      | inl here ↦ subst (λ n. 16 ≤ n) (sym (rule_number rule table moment readings states refused here)) (above (number rule) parts.0)
      | inr more ↦ after_number table moment readings states refused rules parts.1 more.1
    ]

late_number : (says : Says) (table : Table) (moment : ℕ) (readings : List Reading) (states : List State) (refused : Refusal) (asked after : Option Event)
    → asked ≡ asking says readings states → after ≡ first_rule rules_after table moment readings states → option_or asked after ≡ Some (events.Refused refused) → 16 ≤ refused.rule
late_number says table moment readings states refused (Some asked) after is after_is e = let n = asking_number says readings states refused (sym is ∙ e) in omega (arith, n)
late_number says table moment readings states refused None after is after_is e =
    after_number table moment readings states refused rules_after refl (sym after_is ∙ e)

by_before : (says other : Says) (table : Table) (moment : ℕ) (readings : List Reading) (states : List State) (refused : Refusal) (before : Option Event) → refused.rule ≤ 15
    → option_or before (option_or (asking says readings states) (first_rule rules_after table moment readings states)) ≡ Some (events.Refused refused)
    → option_or before (option_or (asking other readings states) (first_rule rules_after table moment readings states)) ≡ Some (events.Refused refused)
by_before says other table moment readings states refused (Some event) low e = e
by_before says other table moment readings states refused None low e =
    absurd (let high = late_number says table moment readings states refused (asking says readings states) (first_rule rules_after table moment readings states) refl refl e in omega (arith, high, low))

pub same_before : (says other : Says) (table : Table) (moment : ℕ) (readings : List Reading) (states : List State) (refused : Refusal) → refused.rule ≤ 15
    → first_event says table moment readings states ≡ Some (events.Refused refused) → first_event other table moment readings states ≡ Some (events.Refused refused)
same_before says other table moment readings states refused low e =
    by_before says other table moment readings states refused (first_rule rules_before table moment readings states) low e
