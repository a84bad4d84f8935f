use Rattle.std.proofs.Common.{◌≡◌, ℕ, false, true, List, filter, length, Contains, nat_cmp, bytes_eq, rules, arith, sym, ap, subst}
use Rattle.std.proofs.lemmas.Cmp.{nat_list_cmp_total, nat_list_eq_equiv}
use Rattle.std.proofs.lemmas.Fn.{filter_same}
use Rattle.std.proofs.lemmas.List.Elements.{All-weaker, filter_passes}
use Rattle.std.proofs.lemmas.List.Filters.{All-dedup, dedup_is}
use Rattle.std.proofs.lemmas.List.Kept.{Contains-dedup, Contains-from_dedup, IsStrictlySortedBy-dedup}
use Rattle.std.proofs.lemmas.List.Sorted.{All-permutation, Contains-permutation, IsPermutation-sym, length_permutation}
use Rattle.std.specs.Cmp.Lexicographic.{slice_cmp, bytes_decides, texts_ties}
use Rattle.std.specs.List.{All, dedup}
use Rattle.std.specs.List.Sorted.{IsStrictlySortedBy}
use Rattle.tn_values.specs.Digit.{are_digits}
use Rattle.lists.proofs.Tests.{not_true}
use Rattle.tn_values.proofs.BuildLaws.{is_other}
use Rattle.tn_values.proofs.TextLaws.{dedup_fewer}
use Rattle.tn_values.proofs.merging.others.Goals as goal

abbrev Texts : Type 0
Texts = List (List ℕ)

abbrev Other : List ℕ → Type 0
Other number = are_digits number ≡ false

pub returns-clause-others : goal.returns-clause-others
returns-clause-others c =
    let kept : c.retain.new.self.items ≡ filter is_other c.args.numbers.items
    = filter_same _ is_other _ (λ x b f' k. search rules) _ _ c.retain.ensures.filtered in
    let once : c.dedup.new.self.items ≡ dedup bytes_eq c.sort_unstable.new.self.items = dedup_is bytes_eq _ _ c.dedup.ensures.filtered in
    let passed : All Other (filter is_other c.args.numbers.items)
    = All-weaker (λ n. is_other n ≡ true) Other (λ n h. not_true (are_digits n) h) _ (filter_passes is_other c.args.numbers.items) in
    let before : All Other c.retain.new.self.items = subst (λ (t : Texts). All Other t) (sym kept) passed in
    let sorted = All-permutation Other c.retain.new.self.items c.sort_unstable.new.self.items c.sort_unstable.ensures.permutation before in
    subst (λ (t : Texts). All Other t) (sym once) (All-dedup bytes_eq Other c.sort_unstable.new.self.items sorted)

pub returns-clause-order : goal.returns-clause-order
returns-clause-order c =
    let once : c.dedup.new.self.items ≡ dedup bytes_eq c.sort_unstable.new.self.items = dedup_is bytes_eq _ _ c.dedup.ensures.filtered in
    subst (λ (t : Texts). IsStrictlySortedBy (slice_cmp nat_cmp) t) (sym once)
    (IsStrictlySortedBy-dedup nat_list_cmp_total {E = bytes_eq} texts_ties c.sort_unstable.new.self.items c.sort_unstable.ensures.sorted)

pub returns-clause-same : goal.returns-clause-same
returns-clause-same c =
    let kept : c.retain.new.self.items ≡ filter is_other c.args.numbers.items
    = filter_same _ is_other _ (λ x b f' k. search rules) _ _ c.retain.ensures.filtered in
    let once : c.dedup.new.self.items ≡ dedup bytes_eq c.sort_unstable.new.self.items = dedup_is bytes_eq _ _ c.dedup.ensures.filtered in
    let was : Texts = c.retain.new.self.items in
    let sorted : Texts = c.sort_unstable.new.self.items in
    λ number. (
      λ h. subst (λ (t : Texts). Contains t number) kept
          (Contains-permutation sorted was number (IsPermutation-sym was sorted c.sort_unstable.ensures.permutation)
          (Contains-from_dedup bytes_eq sorted number (subst (λ (t : Texts). Contains t number) once h))),
      λ h. subst (λ (t : Texts). Contains t number) (sym once)
          (Contains-dedup nat_list_eq_equiv (λ x y t. (bytes_decides x y).0 t) sorted number
          (Contains-permutation was sorted number c.sort_unstable.ensures.permutation (subst (λ (t : Texts). Contains t number) (sym kept) h))),
    )

pub returns-clause-few : goal.returns-clause-few
returns-clause-few c =
    let kept : c.retain.new.self.items ≡ filter is_other c.args.numbers.items
    = filter_same _ is_other _ (λ x b f' k. search rules) _ _ c.retain.ensures.filtered in
    let once : c.dedup.new.self.items ≡ dedup bytes_eq c.sort_unstable.new.self.items = dedup_is bytes_eq _ _ c.dedup.ensures.filtered in
    let few = dedup_fewer c.sort_unstable.new.self.items in
    let moved = length_permutation c.retain.new.self.items c.sort_unstable.new.self.items c.sort_unstable.ensures.permutation in
    let a : length c.dedup.new.self.items ≡ length (dedup bytes_eq c.sort_unstable.new.self.items) = ap length once in
    let b : length c.retain.new.self.items ≡ length (filter is_other c.args.numbers.items) = ap length kept in
    omega (arith, few, moved, a, b)
