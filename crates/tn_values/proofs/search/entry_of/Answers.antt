use Rattle.std.proofs.Common.{◌≡◌, ℕ, true, false, List, sym, ap, ◌∙◌, subst}
use Rattle.tn_values.specs.Digit.{are_digits}
use Rattle.tn_values.specs.NumberSet.{part_count}
use Rattle.tn_values.specs.Sides.{IsFoundIn, sides}
use Rattle.tn_values.specs.declared.sorted.Side.{Side}
use Rattle.tn_values.proofs.SideLaws.{digits_entry, other_entry}
use Rattle.tn_values.proofs.search.entry_of.Goals as goal

pub returns-then-are_digits-clause-entry : goal.returns-then-are_digits-clause-entry
returns-then-are_digits-clause-entry g c =
    let set = c.args.set.now in
    let number = c.args.number.now in
    let all : List Side = sides set number in
    let d : are_digits number ≡ true = ap are_digits (sym c.bytes.ensures.value) ∙ sym c.are_digits.ensures ∙ c.if-are_digits.true in
    digits_entry set number c.find.result c.is_merged.ensures d
    (subst (λ (n : ℕ). IsFoundIn all 0 n c.find.result) c.span_count.ensures c.find.ensures.found)

pub returns-else-are_digits-clause-entry : goal.returns-else-are_digits-clause-entry
returns-else-are_digits-clause-entry g c =
    let set = c.args.set.now in
    let number = c.args.number.now in
    let all : List Side = sides set number in
    let d : are_digits number ≡ false = ap are_digits (sym c.bytes.ensures.value) ∙ sym c.are_digits.ensures ∙ c.if-are_digits.false in
    other_entry set number c.find-else-are_digits.result d
    (subst (λ (n : ℕ). IsFoundIn all n (part_count set) c.find-else-are_digits.result) c.span_count-else-are_digits.ensures
    (subst (λ (n : ℕ). IsFoundIn all c.span_count-else-are_digits.result n c.find-else-are_digits.result) c.len.ensures
    c.find-else-are_digits.ensures.found))
