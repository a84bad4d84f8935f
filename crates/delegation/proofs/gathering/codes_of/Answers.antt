use Rattle.std.proofs.Common.{◌≡◌, ℕ, List, Contains, nat_cmp, bytes_eq, sym, subst}
use Rattle.std.proofs.lemmas.Cmp.{nat_list_cmp_total, nat_list_eq_equiv}
use Rattle.std.proofs.lemmas.List.Filters.{dedup_is}
use Rattle.std.proofs.lemmas.List.Kept.{Contains-dedup, Contains-from_dedup, IsStrictlySortedBy-dedup}
use Rattle.std.proofs.lemmas.List.Sorted.{Contains-permutation, IsPermutation-sym}
use Rattle.std.specs.Cmp.Lexicographic.{slice_cmp, bytes_decides, texts_ties}
use Rattle.std.specs.List.{dedup}
use Rattle.std.specs.List.Sorted.{IsStrictlySortedBy}
use Rattle.delegation.proofs.SetLaws.{code_named, named_code}
use Rattle.delegation.proofs.gathering.codes_of.Goals as goal

abbrev Codes : Type 0
Codes = List (List ℕ)

pub returns-clause-named : goal.returns-clause-named
returns-clause-named c =
    let once : c.dedup.new.self.items ≡ dedup bytes_eq c.sort_unstable.new.self.items = dedup_is bytes_eq _ _ c.dedup.ensures.filtered in
    let was : Codes = c.in_ok-codes.codes.items in
    let sorted : Codes = c.sort_unstable.new.self.items in
    λ code. (
      λ h. code_named c.args.entries.now code (subst (λ (t : Codes). Contains t code) c.in_ok-codes.ensures
          (Contains-permutation sorted was code (IsPermutation-sym was sorted c.sort_unstable.ensures.permutation)
          (Contains-from_dedup bytes_eq sorted code (subst (λ (t : Codes). Contains t code) once h)))),
      λ named. subst (λ (t : Codes). Contains t code) (sym once)
          (Contains-dedup nat_list_eq_equiv (λ x y t. (bytes_decides x y).0 t) sorted code
          (Contains-permutation was sorted code c.sort_unstable.ensures.permutation
          (subst (λ (t : Codes). Contains t code) (sym c.in_ok-codes.ensures) (named_code c.args.entries.now code named)))),
    )

pub returns-clause-once : goal.returns-clause-once
returns-clause-once c =
    let once : c.dedup.new.self.items ≡ dedup bytes_eq c.sort_unstable.new.self.items = dedup_is bytes_eq _ _ c.dedup.ensures.filtered in
    subst (λ (t : Codes). IsStrictlySortedBy (slice_cmp nat_cmp) t) (sym once)
    (IsStrictlySortedBy-dedup nat_list_cmp_total {E = bytes_eq} texts_ties c.sort_unstable.new.self.items c.sort_unstable.ensures.sorted)
