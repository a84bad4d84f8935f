-- What is explained is told by the first rule that is broken.
use Rattle.std.proofs.Common.{◌≡◌, ℕ, suc, ◌+◌, ◌<◌, nat_lt, Bool, true, false, ◌&&◌, List, [], ◌∷◌, ◌++◌, append_assoc, Option, Some, None, take, take_while, refl, sym, ◌∙◌, ap, subst, arith}
use Rattle.std.specs.List.{prefix_len}
use Rattle.std.specs.Option.{option_or}
use Rattle.std.proofs.lemmas.Bool.{and_parts}
use Rattle.std.proofs.lemmas.Bool.Decides.{nat_tests}
use Rattle.std.proofs.lemmas.Option.{same_Some}
use Rattle.verify_rules.proofs.FirstLaws.{none_first}
use Rattle.verify_rules.proofs.WorldEvents.{first_append}
use Rattle.verify_rules.specs.Call.{Call}
use Rattle.verify_rules.specs.Rules.{Rule, early_rules, first, or_later, refusal}
use Rattle.verify_rules.specs.World.{First, MayBeUnasked, MayBeUnread, World, certificate_rules, late_rules}
use Rattle.verify_rules.specs.declared.refusal.Place.{Place}
use Rattle.verify_rules.specs.declared.refusal.Refusal.{Refusal}
use Rattle.call_judging.specs.declared.finding.Finding.TheVariants.{Unasked, Unread}
use Rattle.call_judging.specs.Explain.{Explain, broken_line, broken_text, explain_rules, explained, line_or_more, met_text, ok_line, ok_lines, unread_line}
use Rattle.call_judging.specs.RuleNumbers.{numbers_before, numbers_of}
use Rattle.call_judging.specs.declared.rule_numbers.TheConstants.{RULES, FIRST_ON_FILES, FIRST_ON_SIGNATURES}

not_none : {A : Type 0} → (a : A) → ◌≡◌ {A = Option A} (Some a) None → ⊥
not_none a e = cc

-- ---- the numbers

pub rules_are : (world : World) → numbers_of (early_rules ++ late_rules world) ≡ RULES
rules_are world = refl

pub on_files : numbers_before FIRST_ON_FILES ≡ numbers_of early_rules
on_files = refl

pub on_signatures : (world : World) → numbers_before FIRST_ON_SIGNATURES ≡ numbers_of (early_rules ++ certificate_rules world)
on_signatures world = refl

-- each number is greater than the one before, and the first than this one
abbrev are_rising : ℕ → List ℕ → Bool
are_rising low [] = true
are_rising low (rule ∷ others) = nat_lt low rule && are_rising rule others

-- ---- if none is broken

met_by : (number named : ℕ) (bad : Option Place) (later : Option Refusal) (others lines : List ℕ) → or_later named bad later ≡ None → (later ≡ None → others ≡ lines)
    → line_or_more number named bad others ≡ ok_line number named ++ lines
met_by number named None later others lines none more = ap (λ (x : List ℕ). ok_line number named ++ x) (more none)
met_by number named (Some bad) later others lines none more = absurd (not_none (refusal named bad) none)

met_all : (number : ℕ) (rules : List Rule) (call : Call) → first rules call ≡ None → explain_rules number rules call ≡ ok_lines number (numbers_of rules)
unfolding ok_lines
met_all number [] call none = refl
met_all number (rule ∷ others) call none =
    met_by number rule.number (rule.broken call) (first others call) (explain_rules number others call) (ok_lines number (numbers_of others)) none (met_all number others call)

-- ---- if one is

-- those of these numbers that stand before this one
abbrev before : ℕ → List ℕ → List ℕ
before rule numbers = take_while (λ n. nat_lt n rule) numbers

before_same : (rule : ℕ) (others : List ℕ) → before rule (rule ∷ others) ≡ []
before_same rule others = let no_less : nat_lt rule rule ≡ false = grind (arith, nat_tests) in rw no_less refl

before_more : (rule named : ℕ) (others : List ℕ) → named < rule → before rule (named ∷ others) ≡ named ∷ before rule others
before_more rule named others less =
    let is : nat_lt named rule ≡ true = grind (arith, nat_tests) in
    let count = prefix_len (λ n. nat_lt n rule) others in
    let next : 1 + count ≡ suc count = omega arith in
    rw is (ap (λ n. take n (named ∷ others)) next)

-- its number is above this one, and the lines are those of the rules before it and its own
abbrev BrokenAbove : ℕ → ℕ → List ℕ → List ℕ → Refusal → Type 0
BrokenAbove number low numbers lines refused = (low < refused.rule) × (lines ≡ ok_lines number (before refused.rule numbers) ++ broken_line number refused)

broken_here : (number low named : ℕ) (others : List ℕ) (bad : Place) → low < named → BrokenAbove number low (named ∷ others) (broken_line number (refusal named bad)) (refusal named bad)
unfolding ok_lines
broken_here number low named others bad above =
    (above, sym (ap (λ (x : List ℕ). ok_lines number x ++ broken_line number (refusal named bad)) (before_same named others)))

broken_later : (number low named : ℕ) (numbers lines : List ℕ) (refused : Refusal) → low < named → BrokenAbove number named numbers lines refused
    → BrokenAbove number low (named ∷ numbers) (ok_line number named ++ lines) refused
unfolding ok_lines
broken_later number low named numbers lines refused above (more, are) = (
  omega (arith, above, more),
  ap (λ (x : List ℕ). ok_line number named ++ x) are
      ∙ sym (append_assoc (ok_line number named) (ok_lines number (before refused.rule numbers)) (broken_line number refused))
      ∙ sym (ap (λ (x : List ℕ). ok_lines number x ++ broken_line number refused) (before_more refused.rule named numbers more)),
)

broken_by : (number low named : ℕ) (numbers : List ℕ) (bad : Option Place) (later : Option Refusal) (others : List ℕ) (refused : Refusal) → low < named
    → or_later named bad later ≡ Some refused → (later ≡ Some refused → BrokenAbove number named numbers others refused)
    → BrokenAbove number low (named ∷ numbers) (line_or_more number named bad others) refused
broken_by number low named numbers None later others refused above is more = broken_later number low named numbers others refused above (more is)
broken_by number low named numbers (Some bad) later others refused above is more =
    subst (λ (r : Refusal). BrokenAbove number low (named ∷ numbers) (broken_line number (refusal named bad)) r) (same_Some (refusal named bad) refused is)
    (broken_here number low named numbers bad above)

broken_above : (number low : ℕ) (rules : List Rule) (call : Call) (refused : Refusal) → are_rising low (numbers_of rules) ≡ true → first rules call ≡ Some refused
    → BrokenAbove number low (numbers_of rules) (explain_rules number rules call) refused
broken_above number low [] call refused rising is = absurd (cc)
broken_above number low (rule ∷ others) call refused rising is =
    let parts = and_parts (nat_lt low rule.number) (are_rising rule.number (numbers_of others)) rising in
    let above : low < rule.number = let less = parts.0 in grind (arith, nat_tests) in
    broken_by number low rule.number (numbers_of others) (rule.broken call) (first others call) (explain_rules number others call) refused above is
    (broken_above number rule.number others call refused parts.1)

-- ---- of all rules

pub explains_met : (world : World) (number : ℕ) (call : Call) → First world call ≡ None → Explain world number call ≡ met_text number
unfolding Explain
explains_met world number call none = met_all number (early_rules ++ late_rules world) call none ∙ ap (ok_lines number) (rules_are world)

pub explains_broken : (world : World) (number : ℕ) (call : Call) (refused : Refusal) → First world call ≡ Some refused → Explain world number call ≡ broken_text number refused
unfolding Explain
explains_broken world number call refused is =
    (broken_above number 0 (early_rules ++ late_rules world) call refused refl is).1
    ∙ ap (λ (x : List ℕ). ok_lines number (before refused.rule x) ++ broken_line number refused) (rules_are world)

-- ---- if a call is set aside

pub explains_unread : (world : World) (number : ℕ) (call : Call) (bad : Place) → MayBeUnread world call bad
    → explained number (Unread bad) ≡ explain_rules number early_rules call ++ unread_line number bad
explains_unread world number call bad may =
    ap (λ (x : List ℕ). ok_lines number x ++ unread_line number bad) on_files
    ∙ ap (λ (x : List ℕ). x ++ unread_line number bad) (sym (met_all number early_rules call (none_first early_rules call may.early)))

pub explains_unasked : (world : World) (number : ℕ) (call : Call) (bad : Place) → MayBeUnasked world call bad
    → explained number (Unasked bad) ≡ explain_rules number (early_rules ++ certificate_rules world) call
explains_unasked world number call bad may =
    let none : first (early_rules ++ certificate_rules world) call ≡ None =
    first_append early_rules (certificate_rules world) call
    ∙ ap (λ (x : Option Refusal). option_or x (first (certificate_rules world) call)) (none_first early_rules call may.early)
    ∙ none_first (certificate_rules world) call may.chains in
    ap (ok_lines number) (on_signatures world) ∙ sym (met_all number (early_rules ++ certificate_rules world) call none)
