-- Laws of texts in order: what equal in order is, and that lists in order that have the same texts are the same.
use Rattle.std.proofs.Common.{◌≡◌, ℕ, zero, suc, ◌≤◌, ◌⊎◌, inl, inr, Bool, true, false, cond, bytes_eq, List, [], ◌∷◌, length, Contains, Less, Equal, Greater, nat_cmp, is_eq, arith, refl, sym, ap, ◌∙◌, subst}
use Rattle.std.proofs.lemmas.Cmp.{nat_list_cmp_total, tied_itself}
use Rattle.std.proofs.lemmas.Map.Keys.{sorted_head, sorted_tail}
use Rattle.std.specs.Cmp.Lexicographic.{slice_cmp, bytes_decides, texts_ties}
use Rattle.std.specs.List.{AllByRecursion, dedup, dedup_from}
use Rattle.std.specs.List.Sorted.{IsStrictlySortedBy}
use Rattle.std.specs.Ordering.{ordering_reverse}

pub same_text : (a b : List ℕ) → slice_cmp nat_cmp a b ≡ Equal → a ≡ b
same_text a b h = (bytes_decides a b).0 (texts_ties a b ∙ ap is_eq h)

pub tied : (a b : List ℕ) → a ≡ b → slice_cmp nat_cmp a b ≡ Equal
tied a b h = subst (λ c. slice_cmp nat_cmp a c ≡ Equal) h (tied_itself nat_list_cmp_total a)

-- ---- one before another

abbrev pub Precedes : List ℕ → List ℕ → Type 0
Precedes a b = slice_cmp nat_cmp a b ≡ Less

not_itself : (a b : List ℕ) → a ≡ b → Precedes a b → ⊥
not_itself a b same h = let equal = tied a b same in cc

pub not_both : (a b : List ℕ) → Precedes a b → Precedes b a → ⊥
not_both a b h back =
    let turned : slice_cmp nat_cmp a b ≡ Greater = nat_list_cmp_total.antisymm a b ∙ ap ordering_reverse back in
    cc

-- ---- texts of a list

abbrev pub Has : List (List ℕ) → List ℕ → Type 0
Has [] text = ⊥
Has (first ∷ texts) text = (first ≡ text) ⊎ Has texts text

pub has : (texts : List (List ℕ)) (text : List ℕ) → Contains texts text → Has texts text
has [] text (k, inside, at) = absurd (omega (arith, inside))
has (first ∷ texts) text (zero, inside, at) = inl at
has (first ∷ texts) text (suc k, inside, at) = inr (has texts text (k, omega (arith, inside), at))

pub contains : (texts : List (List ℕ)) (text : List ℕ) → Has texts text → Contains texts text
contains [] text h = absurd h
contains (first ∷ texts) text (inl same) = (0, omega arith, same)
contains (first ∷ texts) text (inr h) = let c = contains texts text h in (suc c.0, omega (arith, c.1), c.2)

-- ---- lists in order

precedes_all : (first : List ℕ) (texts : List (List ℕ)) (text : List ℕ) → AllByRecursion (λ other. Precedes first other) texts → Has texts text
    → Precedes first text
precedes_all first [] text all h = absurd h
precedes_all first (next ∷ texts) text all (inl same) = subst (λ other. Precedes first other) same all.0
precedes_all first (next ∷ texts) text all (inr h) = precedes_all first texts text all.1 h

abbrev Rises : List (List ℕ) → Type 0
Rises texts = IsStrictlySortedBy (slice_cmp nat_cmp) texts

behind : (first : List ℕ) (texts : List (List ℕ)) (text : List ℕ) → Rises (first ∷ texts) → Has texts text → Precedes first text
behind first texts text rises h = precedes_all first texts text (sorted_head (slice_cmp nat_cmp) first texts rises) h

same_first : (a b : List ℕ) (xs ys : List (List ℕ)) → Rises (a ∷ xs) → Rises (b ∷ ys) → Has (b ∷ ys) a → Has (a ∷ xs) b → a ≡ b
same_first a b xs ys rises also (inl same) back = sym same
same_first a b xs ys rises also (inr there) (inl same) = same
same_first a b xs ys rises also (inr there) (inr back) = absurd (not_both a b (behind a xs b rises back) (behind b ys a also there))

behind_first : (a b : List ℕ) (xs ys : List (List ℕ)) → Rises (a ∷ xs) → a ≡ b → ((text : List ℕ) → Has (a ∷ xs) text → Has (b ∷ ys) text)
    → (text : List ℕ) → Has xs text → Has ys text
behind_first a b xs ys rises same there text h =
    elim (there text (inr h)) [ inl first ↦ absurd (not_itself a text (same ∙ first) (behind a xs text rises h)) | inr more ↦ more ]

same_lists : (xs ys : List (List ℕ)) → Rises xs → Rises ys → ((text : List ℕ) → Has xs text → Has ys text)
    → ((text : List ℕ) → Has ys text → Has xs text) → xs ≡ ys
same_lists [] [] rises also there back = refl
same_lists [] (b ∷ ys) rises also there back = absurd (back b (inl refl))
same_lists (a ∷ xs) [] rises also there back = absurd (there a (inl refl))
same_lists (a ∷ xs) (b ∷ ys) rises also there back =
    let heads = same_first a b xs ys rises also (there a (inl refl)) (back b (inl refl)) in
    let tails = same_lists xs ys (sorted_tail (slice_cmp nat_cmp) a xs rises) (sorted_tail (slice_cmp nat_cmp) b ys also)
    (behind_first a b xs ys rises heads there) (behind_first b a ys xs also (sym heads) back) in
    λ i. heads i ∷ tails i

-- lists in order that have the same texts are the same
pub same_texts : (xs ys : List (List ℕ)) → Rises xs → Rises ys → ((text : List ℕ) → Contains xs text → Contains ys text)
    → ((text : List ℕ) → Contains ys text → Contains xs text) → xs ≡ ys
same_texts xs ys rises also there back =
    same_lists xs ys rises also (λ text h. has ys text (there text (contains xs text h))) (λ text h. has xs text (back text (contains ys text h)))

-- ---- numbers sorted, each once

fewer_by : (text next : List ℕ) (texts : List (List ℕ)) (b : Bool) → length (dedup_from bytes_eq text texts) ≤ suc (length texts)
    → length (dedup_from bytes_eq next texts) ≤ suc (length texts)
    → length (cond b (dedup_from bytes_eq text texts) (text ∷ dedup_from bytes_eq next texts)) ≤ suc (suc (length texts))
fewer_by text next texts true one other = omega (arith, one)
fewer_by text next texts false one other = omega (arith, other)

fewer_from : (text : List ℕ) (texts : List (List ℕ)) → length (dedup_from bytes_eq text texts) ≤ suc (length texts)
fewer_from text [] = omega arith
fewer_from text (next ∷ texts) = fewer_by text next texts (bytes_eq next text) (fewer_from text texts) (fewer_from next texts)

pub dedup_fewer : (texts : List (List ℕ)) → length (dedup bytes_eq texts) ≤ length texts
dedup_fewer [] = omega arith
dedup_fewer (text ∷ texts) = fewer_from text texts
