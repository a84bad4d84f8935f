-- One PASSporT more of those that a rule is asked of, and one rule more.
use Rattle.std.proofs.Common.{◌≡◌, ℕ, suc, ◌+◌, ◌<◌, ◌≤◌, List, length, drop, get_or, drop-cons, Option, Some, None, sym, ◌∙◌, ap, arith}
use Rattle.std.specs.List.{slice_get}
use Rattle.std.specs.Option.{option_or}
use Rattle.std.proofs.lemmas.List.{drop_all}
use Rattle.delegation.specs.Coverage.{Table}
use Rattle.verify_rules.specs.Call.{Reading}
use Rattle.verify_rules.specs.Late.{at_rule, first_rule, rule_event}
use Rattle.verify_rules.specs.States.{State}
use Rattle.verify_rules.specs.declared.late.Event.{Event}
use Rattle.verify_rules.specs.declared.late.LateRule.{LateRule}
use Rattle.verify_rules.proofs.FirstOf.{done, here, more}

-- ---- one PASSporT

pub rule_event_more : (rule : LateRule) (table : Table) (moment : ℕ) (readings : List Reading) (states : List State) (i : ℕ) (one : Reading) (state : State) (o all : Option Event)
    → slice_get readings i ≡ Some one → slice_get states i ≡ Some state → o ≡ at_rule rule table moment one state → o ≡ None
    → rule_event rule table moment (drop i readings) (drop i states) ≡ all → rule_event rule table moment (drop (i + 1) readings) (drop (i + 1) states) ≡ all
rule_event_more rule table moment readings states i one state o all e f is none left = more (at_rule rule table moment) readings states i one state all e f (sym is ∙ none) left

pub rule_event_here : (rule : LateRule) (table : Table) (moment : ℕ) (readings : List Reading) (states : List State) (i : ℕ) (one : Reading) (state : State) (event : Event) (o all : Option Event)
    → slice_get readings i ≡ Some one → slice_get states i ≡ Some state → o ≡ at_rule rule table moment one state → o ≡ Some event
    → rule_event rule table moment (drop i readings) (drop i states) ≡ all → Some event ≡ all
rule_event_here rule table moment readings states i one state event o all e f is some left = here (at_rule rule table moment) readings states i one state event all e f (sym is ∙ some) left

pub rule_event_done : (rule : LateRule) (table : Table) (moment : ℕ) (readings : List Reading) (states : List State) (i : ℕ) (all : Option Event) → length readings ≤ i
    → rule_event rule table moment (drop i readings) (drop i states) ≡ all → None ≡ all
rule_event_done rule table moment readings states i all end left = done (at_rule rule table moment) readings states i all end left

-- ---- one rule

rules_step : (rules : List LateRule) (table : Table) (moment : ℕ) (readings : List Reading) (states : List State) (i : ℕ) (rule d : LateRule) → i < length rules → rule ≡ get_or rules i d
    → first_rule (drop i rules) table moment readings states
    ≡ option_or (rule_event rule table moment readings states) (first_rule (drop (suc i) rules) table moment readings states)
rules_step rules table moment readings states i rule d inside is =
    ap (λ (x : List LateRule). first_rule x table moment readings states) (drop-cons rules i d inside)
    ∙ ap (λ (x : LateRule). option_or (rule_event x table moment readings states) (first_rule (drop (suc i) rules) table moment readings states)) (sym is)

pub rules_more : (rules : List LateRule) (table : Table) (moment : ℕ) (readings : List Reading) (states : List State) (i : ℕ) (rule d : LateRule) (o all : Option Event)
    → i < length rules → rule ≡ get_or rules i d → o ≡ rule_event rule table moment readings states → o ≡ None
    → first_rule (drop i rules) table moment readings states ≡ all → first_rule (drop (i + 1) rules) table moment readings states ≡ all
rules_more rules table moment readings states i rule d o all inside is told none left =
    let behind : i + 1 ≡ suc i = omega arith in
    ap (λ k. first_rule (drop k rules) table moment readings states) behind
    ∙ sym (ap (λ x. option_or x (first_rule (drop (suc i) rules) table moment readings states)) (sym told ∙ none))
    ∙ sym (rules_step rules table moment readings states i rule d inside is) ∙ left

pub rules_here : (rules : List LateRule) (table : Table) (moment : ℕ) (readings : List Reading) (states : List State) (i : ℕ) (rule d : LateRule) (event : Event) (o all : Option Event)
    → i < length rules → rule ≡ get_or rules i d → o ≡ rule_event rule table moment readings states → o ≡ Some event
    → first_rule (drop i rules) table moment readings states ≡ all → Some event ≡ all
rules_here rules table moment readings states i rule d event o all inside is told some left =
    sym (ap (λ x. option_or x (first_rule (drop (suc i) rules) table moment readings states)) (sym told ∙ some))
    ∙ sym (rules_step rules table moment readings states i rule d inside is) ∙ left

pub rules_done : (rules : List LateRule) (table : Table) (moment : ℕ) (readings : List Reading) (states : List State) (i : ℕ) (all : Option Event) → length rules ≤ i
    → first_rule (drop i rules) table moment readings states ≡ all → None ≡ all
rules_done rules table moment readings states i all end left = sym (ap (λ (x : List LateRule). first_rule x table moment readings states) (drop_all i rules end)) ∙ left
