-- Entries that were sorted: the same, in rising order of tickets.
use Rattle.std.proofs.Common.{◌≡◌, ℕ, suc, ◌+◌, Bool, true, false, List, [], ◌∷◌, slice_index_or, Option, Some, None, refl, sym, ◌∙◌, ap, subst, arith}
use Rattle.std.specs.List.{IsDistinct}
use Rattle.std.specs.List.Sorted.{IsPermutation, IsSortedByKey}
use Rattle.std.specs.Map.{keys_of, lookup}
use Rattle.std.specs.Ordering.{is_eq, is_lt, nat_cmp, ordering_reverse}
use Rattle.std.specs.declared.cmp.Ordering.{Ordering}
use Rattle.std.specs.declared.cmp.Ordering.TheVariants.{Less, Equal, Greater}
use Rattle.std.specs.Str.{bytes_eq}
use Rattle.std.proofs.lemmas.Cmp.{nat_list_cmp_total}
use Rattle.std.proofs.lemmas.List.Sorted.{Contains-permutation, IsPermutation-map, IsPermutation-sym}
use Rattle.std.proofs.lemmas.Map.Keys.{IsDistinct-IsPermutation}
use Rattle.std.proofs.lemmas.Map.Text.{is_eq-slice_cmp}
use Rattle.std.proofs.lemmas.Map.Views.{Contains-from_lookup, lookup-from_Contains}
use Rattle.std.proofs.lemmas.Slice.Eq.{bytes_eq-Decides}
use Rattle.std.specs.Cmp.Lexicographic.{nat_list_eq_equiv, slice_cmp}
use Rattle.state_text.specs.State.{Entry, Rises}
use Rattle.state_text.specs.declared.kept.Kept.{Kept}

abbrev pub ticket_in : Entry → List ℕ
ticket_in entry = entry.0

-- tickets byte by byte from the first on
abbrev pub cmp_tickets : List ℕ → List ℕ → Ordering
cmp_tickets a b = slice_cmp nat_cmp a b

-- ---- the same at each ticket

eq_same : (a b : List ℕ) → bytes_eq a b ≡ true → a ≡ b
eq_same a b e = (bytes_eq-Decides a b).0 e

eq_flips : (a b : List ℕ) → bytes_eq a b ≡ bytes_eq b a
eq_flips a b = by_tests (bytes_eq a b) (bytes_eq b a) refl refl where
  by_tests : (s t : Bool) → bytes_eq a b ≡ s → bytes_eq b a ≡ t → s ≡ t
  by_tests true true e f = refl
  by_tests false false e f = refl
  by_tests true false e f = (let r = (bytes_eq-Decides b a).1 (sym (eq_same a b e)) in let both : true ≡ false = sym r ∙ f in both)
  by_tests false true e f = (let r = (bytes_eq-Decides a b).1 (sym (eq_same b a f)) in let both : true ≡ false = sym r ∙ e in sym both)

moved : (xs ys : List Entry) → IsPermutation xs ys → IsDistinct bytes_eq (keys_of xs) → (ticket : List ℕ) (kept : Kept) → lookup (bytes_eq ticket) xs ≡ Some kept → lookup (bytes_eq ticket) ys ≡ Some kept
moved xs ys p d ticket kept h =
    let other : IsDistinct bytes_eq (keys_of ys) = IsDistinct-IsPermutation bytes_eq eq_flips (keys_of xs) (keys_of ys) (IsPermutation-map (λ (e : Entry). e.0) xs ys p) d in
    lookup-from_Contains nat_list_eq_equiv ticket kept ys other (Contains-permutation xs ys (ticket, kept) p (Contains-from_lookup eq_same ticket kept xs h))

pub same_lookup : (xs ys : List Entry) → IsPermutation xs ys → IsDistinct bytes_eq (keys_of xs) → (ticket : List ℕ) → lookup (bytes_eq ticket) ys ≡ lookup (bytes_eq ticket) xs
same_lookup xs ys p d ticket = by_found (lookup (bytes_eq ticket) xs) (lookup (bytes_eq ticket) ys) refl refl where
  back : IsPermutation ys xs
  back = IsPermutation-sym xs ys p

  other : IsDistinct bytes_eq (keys_of ys)
  other = IsDistinct-IsPermutation bytes_eq eq_flips (keys_of xs) (keys_of ys) (IsPermutation-map (λ (e : Entry). e.0) xs ys p) d

  by_found : (o m : Option Kept) → lookup (bytes_eq ticket) xs ≡ o → lookup (bytes_eq ticket) ys ≡ m → m ≡ o
  by_found (Some kept) m e f = sym f ∙ moved xs ys p d ticket kept e
  by_found None None e f = refl
  by_found None (Some kept) e f = sym (moved ys xs back other ticket kept f) ∙ e

-- ---- rising

less : (r s : Ordering) (same : Bool) → s ≡ ordering_reverse r → is_eq r ≡ same → same ≡ false → is_lt s ≡ false → is_lt r ≡ true
less Less s same e f g h = refl
less Equal s same e f g h = (let both : true ≡ false = f ∙ g in absurd (cc))
less Greater s same e f g h = (let both : true ≡ false = sym (ap is_lt e) ∙ h in absurd (cc))

above : (a b : List ℕ) → bytes_eq a b ≡ false → is_lt (cmp_tickets b a) ≡ false → is_lt (cmp_tickets a b) ≡ true
above a b apart not_less = less (cmp_tickets a b) (cmp_tickets b a) (bytes_eq a b) (nat_list_cmp_total.antisymm b a) (is_eq-slice_cmp a b) apart not_less

sorted_on : (e : Entry) (es : List Entry) → IsSortedByKey ticket_in cmp_tickets (e ∷ es) → IsSortedByKey ticket_in cmp_tickets es
sorted_on e es s = λ k d low inside.
    let one : suc k + 1 ≡ suc (k + 1) = omega arith in
    subst (λ n. is_lt (cmp_tickets (ticket_in (slice_index_or (e ∷ es) n d)) (ticket_in (slice_index_or (e ∷ es) (suc k) d))) ≡ false) one (s (suc k) d (omega arith) (omega (arith, inside)))

rises_behind : (e : Entry) (es : List Entry) → IsDistinct bytes_eq (keys_of (e ∷ es)) → IsSortedByKey ticket_in cmp_tickets (e ∷ es) → Rises (Some e.0) es
unfolding IsDistinct
rises_behind e [] d s = tt
rises_behind e (f ∷ es) d s = (above e.0 f.0 d.0.0 (s 0 e (omega arith) (omega arith)), rises_behind f es d.1 (sorted_on e (f ∷ es) s))

pub rises : (es : List Entry) → IsDistinct bytes_eq (keys_of es) → IsSortedByKey ticket_in cmp_tickets es → Rises None es
unfolding IsDistinct
rises [] d s = tt
rises (e ∷ es) d s = (refl, rises_behind e es d s)

-- ---- after a sort

pub sorted_same : (xs ys : List Entry) (ticket : List ℕ) → IsPermutation xs ys → IsDistinct bytes_eq (keys_of xs) → lookup (bytes_eq ticket) ys ≡ lookup (bytes_eq ticket) xs
sorted_same xs ys ticket p d = same_lookup xs ys p d ticket

pub sorted_rises : (xs ys : List Entry) → IsPermutation xs ys → IsDistinct bytes_eq (keys_of xs) → IsSortedByKey ticket_in cmp_tickets ys → Rises None ys
sorted_rises xs ys p d s = rises ys (IsDistinct-IsPermutation bytes_eq eq_flips (keys_of xs) (keys_of ys) (IsPermutation-map (λ (e : Entry). e.0) xs ys p) d) s
