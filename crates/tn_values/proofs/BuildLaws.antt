-- Laws of a set as it is built: it is kept in order, has the numbers that were given, and no more entries.
use Rattle.std.proofs.Common.{◌≡◌, ℕ, zero, suc, ◌+◌, ◌<◌, ◌≤◌, ◌↔◌, Bool, true, false, cond, not, ◌&&◌, ◌⊎◌, inl, inr, List, [], ◌∷◌, ◌++◌, filter, length, take, Option, Some, None, Any, Contains, IsPermutation, nat_cmp, length-append, arith, refl, sym, ap, ◌∙◌, subst}
use Rattle.std.proofs.lemmas.Bool.{cases_Bool}
use Rattle.std.proofs.lemmas.List.{take_more}
use Rattle.std.proofs.lemmas.List.Elements.{filter_map-append, recursion_from_All}
use Rattle.std.proofs.lemmas.List.Sorted.{Contains-permutation, IsPermutation-sym, length_permutation}
use Rattle.std.specs.Cmp.Lexicographic.{slice_cmp}
use Rattle.std.specs.List.{All, cons_option, filter_map, slice_index_or}
use Rattle.std.specs.List.Sorted.{IsNonDecreasingBy, IsStrictlySortedBy}
use Rattle.tn_values.specs.Digit.{are_digits}
use Rattle.tn_values.specs.Merged.{IsMerged, IsSpan, merged, rank_of}
use Rattle.tn_values.specs.NumberSet.{SetHolds, part_count, set_of}
use Rattle.tn_values.specs.Span.{SpanView, SpanHolds, span_of}
use Rattle.tn_values.proofs.MergeLaws.{in_merged, merged_apart, merged_fewer, merged_in, rises}
use Rattle.tn_values.proofs.RankLaws.{digits_held, in_spans, later, spans_hold}
use Rattle.tn_values.proofs.TextLaws.{Has, contains, has}
use Rattle.tn_values.proofs.ValueLaws.{same_digits}

-- ---- a span of one number

abbrev one : List ℕ → SpanView
one number = record { start = number; size = 1 }

abbrev pub ones : List (List ℕ) → List SpanView
ones numbers = filter_map (λ number. span_of number 1) numbers

abbrev Held : List ℕ → SpanView → Type 0
Held number span = SpanHolds span number

one_is : (first number : List ℕ) → are_digits first ≡ true → SpanHolds (one first) number → first ≡ number
one_is first number d h =
    let from = h.from_start in
    let before = h.below_end in
    let as_long = h.same_length in
    same_digits first number d h.digits (omega (arith, as_long)) (omega (arith, from, before))

is_one : (first number : List ℕ) → are_digits first ≡ true → first ≡ number → SpanHolds (one first) number
is_one first number d same = subst (λ (n : List ℕ). SpanHolds (one first) n) same
    (record { digits = d; same_length = refl; from_start = omega arith; below_end = omega arith })

ones_by : (first number : List ℕ) (numbers : List (List ℕ)) (b : Bool) → are_digits first ≡ b
    → (Any (Held number) (ones numbers) → Has numbers number)
    → Any (Held number) (cons_option (cond (b && true) (Some (one first)) None) (ones numbers)) → Has (first ∷ numbers) number
ones_by first number numbers true d more (zero, span, inside, at, h) = inl (one_is first number d (subst (λ s. SpanHolds s number) (sym at) h))
ones_by first number numbers true d more (suc k, span, inside, at, h) = inr (more (k, span, omega (arith, inside), at, h))
ones_by first number numbers false d more held = inr (more held)

ones_has : (numbers : List (List ℕ)) (number : List ℕ) → Any (Held number) (ones numbers) → Has numbers number
ones_has [] number (k, span, inside, at, h) = absurd (omega (arith, inside))
ones_has (first ∷ numbers) number held = ones_by first number numbers (are_digits first) refl (ones_has numbers number) held

has_by : (first number : List ℕ) (numbers : List (List ℕ)) (b : Bool) → are_digits first ≡ b → are_digits number ≡ true
    → (first ≡ number) ⊎ Any (Held number) (ones numbers) → Any (Held number) (cons_option (cond (b && true) (Some (one first)) None) (ones numbers))
has_by first number numbers true d digits (inl same) = (0, one first, omega arith, refl, is_one first number d same)
has_by first number numbers true d digits (inr more) = later (Held number) (one first) (ones numbers) more
has_by first number numbers false d digits (inl same) = let also : are_digits first ≡ true = ap are_digits same ∙ digits in absurd cc
has_by first number numbers false d digits (inr more) = more

has_ones : (numbers : List (List ℕ)) (number : List ℕ) → are_digits number ≡ true → Has numbers number → Any (Held number) (ones numbers)
has_ones [] number d h = absurd h
has_ones (first ∷ numbers) number d (inl same) = has_by first number numbers (are_digits first) refl d (inl same)
has_ones (first ∷ numbers) number d (inr h) = has_by first number numbers (are_digits first) refl d (inr (has_ones numbers number d h))

-- one number more
pub ones_more : (numbers : List (List ℕ)) (i : ℕ) (number : List ℕ) (o : Option SpanView) → i < length numbers
    → number ≡ slice_index_or numbers i number → span_of number 1 ≡ o → ones (take (i + 1) numbers) ≡ ones (take i numbers) ++ cons_option o []
ones_more numbers i number o inside at is =
    let last : take (i + 1) numbers ≡ take i numbers ++ number ∷ []
    = take_more numbers i number inside ∙ ap (λ n. take i numbers ++ n ∷ []) (sym at) in
    ap ones last ∙ filter_map-append (λ n. span_of n 1) (take i numbers) (number ∷ []) ∙ ap (λ s. ones (take i numbers) ++ cons_option s []) is

-- ---- the other numbers

abbrev pub is_other : List ℕ → Bool
is_other number = not (are_digits number)

others_by : (first number : List ℕ) (numbers : List (List ℕ)) (b : Bool) → are_digits first ≡ b
    → (Has (filter is_other numbers) number → Has numbers number × (are_digits number ≡ false))
    → Has (cond (not b) (first ∷ filter is_other numbers) (filter is_other numbers)) number → Has (first ∷ numbers) number × (are_digits number ≡ false)
others_by first number numbers true d more h = let had = more h in (inr had.0, had.1)
others_by first number numbers false d more (inl same) = (inl same, ap are_digits (sym same) ∙ d)
others_by first number numbers false d more (inr h) = let had = more h in (inr had.0, had.1)

others_has : (numbers : List (List ℕ)) (number : List ℕ) → Has (filter is_other numbers) number → Has numbers number × (are_digits number ≡ false)
others_has [] number h = absurd h
others_has (first ∷ numbers) number h = others_by first number numbers (are_digits first) refl (others_has numbers number) h

other_by : (first number : List ℕ) (numbers : List (List ℕ)) (b : Bool) → are_digits first ≡ b → are_digits number ≡ false
    → (first ≡ number) ⊎ Has (filter is_other numbers) number → Has (cond (not b) (first ∷ filter is_other numbers) (filter is_other numbers)) number
other_by first number numbers true d other (inl same) = let also : are_digits first ≡ false = ap are_digits same ∙ other in absurd cc
other_by first number numbers true d other (inr h) = h
other_by first number numbers false d other h = h

has_others : (numbers : List (List ℕ)) (number : List ℕ) → are_digits number ≡ false → Has numbers number → Has (filter is_other numbers) number
has_others [] number d h = absurd h
has_others (first ∷ numbers) number d (inl same) = other_by first number numbers (are_digits first) refl d (inl same)
has_others (first ∷ numbers) number d (inr h) = other_by first number numbers (are_digits first) refl d (inr (has_others numbers number d h))

parts_by : (first : List ℕ) (numbers : List (List ℕ)) (b : Bool) → length (ones numbers) + length (filter is_other numbers) ≡ length numbers
    → length (cons_option (cond (b && true) (Some (one first)) None) (ones numbers))
    + length (cond (not b) (first ∷ filter is_other numbers) (filter is_other numbers)) ≡ suc (length numbers)
parts_by first numbers true h = omega (arith, h)
parts_by first numbers false h = omega (arith, h)

-- each number is one of the two kinds
both_kinds : (numbers : List (List ℕ)) → length (ones numbers) + length (filter is_other numbers) ≡ length numbers
both_kinds [] = refl
both_kinds (first ∷ numbers) = parts_by first numbers (are_digits first) (both_kinds numbers)

-- ---- some span of two lists

any_cases : (P : SpanView → Type 0) (xs ys : List SpanView) → Any P (xs ++ ys) → Any P xs ⊎ Any P ys
any_cases P [] ys h = inr h
any_cases P (x ∷ xs) ys (zero, span, inside, at, h) = inl (0, span, omega arith, at, h)
any_cases P (x ∷ xs) ys (suc k, span, inside, at, h) =
    elim (any_cases P xs ys (k, span, omega (arith, inside), at, h)) [ inl a ↦ inl (later P x xs a) | inr b ↦ inr b ]

any_left : (P : SpanView → Type 0) (xs ys : List SpanView) → Any P xs → Any P (xs ++ ys)
any_left P [] ys (k, span, inside, at, h) = absurd (omega (arith, inside))
any_left P (x ∷ xs) ys (zero, span, inside, at, h) = (0, span, omega arith, at, h)
any_left P (x ∷ xs) ys (suc k, span, inside, at, h) = later P x (xs ++ ys) (any_left P xs ys (k, span, omega (arith, inside), at, h))

any_right : (P : SpanView → Type 0) (xs ys : List SpanView) → Any P ys → Any P (xs ++ ys)
any_right P [] ys h = h
any_right P (x ∷ xs) ys h = later P x (xs ++ ys) (any_right P xs ys h)

any_moved : (P : SpanView → Type 0) (xs ys : List SpanView) → IsPermutation xs ys → Any P xs → Any P ys
any_moved P xs ys moved (k, span, inside, at, h) =
    let there = Contains-permutation xs ys span moved (k, inside, at) in
    (there.0, span, there.1, there.2, h)

-- ---- the set that is built

-- what the code made of the spans and the numbers that were given
record IsBuilt (spans all : List SpanView) (numbers singles : List (List ℕ)) : Type 0 where
  moved : IsPermutation (spans ++ ones numbers) all
  rises : IsNonDecreasingBy (λ span. rank_of span.start) all
  are : All IsSpan all
  others : All (λ number. are_digits number ≡ false) singles
  order : IsStrictlySortedBy (slice_cmp nat_cmp) singles
  same : (number : List ℕ) → Contains singles number ↔ Contains (filter is_other numbers) number
  few : length singles ≤ length (filter is_other numbers)

built_merged : (spans all : List SpanView) (numbers singles : List (List ℕ)) → IsBuilt spans all numbers singles
    → IsMerged (set_of (merged all) singles)
built_merged spans all numbers singles b = record {
  apart = merged_apart all (recursion_from_All IsSpan all b.are);
  others = b.others;
  order = b.order;
}

-- the merged spans hold what all hold
merged_held : (all : List SpanView) (number : List ℕ) → IsNonDecreasingBy (λ span. rank_of span.start) all → All IsSpan all
    → Any (Held number) (merged all) → Any (Held number) all
merged_held all number up are h =
    let d = digits_held (merged all) number h in
    spans_hold all number d
    (merged_in all (rank_of number) (rises all 0 up (λ d some. omega arith)) (recursion_from_All IsSpan all are) (in_spans (merged all) number h))

held_merged : (all : List SpanView) (number : List ℕ) → IsNonDecreasingBy (λ span. rank_of span.start) all → All IsSpan all
    → Any (Held number) all → Any (Held number) (merged all)
held_merged all number up are h =
    let d = digits_held all number h in
    spans_hold (merged all) number d
    (in_merged all (rank_of number) (rises all 0 up (λ d some. omega arith)) (recursion_from_All IsSpan all are) (in_spans all number h))

built_has : (spans all : List SpanView) (numbers singles : List (List ℕ)) → IsBuilt spans all numbers singles → (number : List ℕ)
    → SetHolds (set_of (merged all) singles) number → SetHolds (set_of spans numbers) number
built_has spans all numbers singles b number (inl held) =
    elim (any_cases (Held number) spans (ones numbers)
    (any_moved (Held number) all (spans ++ ones numbers) (IsPermutation-sym (spans ++ ones numbers) all b.moved) (merged_held all number b.rises b.are held)))
    [ inl given ↦ inl given | inr single ↦ inr (contains numbers number (ones_has numbers number single)) ]
built_has spans all numbers singles b number (inr held) =
    let other = (b.same number).0 held in
    inr (contains numbers number (others_has numbers number (has (filter is_other numbers) number other)).0)

has_built : (spans all : List SpanView) (numbers singles : List (List ℕ)) → IsBuilt spans all numbers singles → (number : List ℕ)
    → SetHolds (set_of spans numbers) number → SetHolds (set_of (merged all) singles) number
has_built spans all numbers singles b number (inl held) =
    inl (held_merged all number b.rises b.are (any_moved (Held number) (spans ++ ones numbers) all b.moved (any_left (Held number) spans (ones numbers) held)))
has_built spans all numbers singles b number (inr held) =
    elim (cases_Bool (are_digits number)) [
      | inl d ↦ inl (held_merged all number b.rises b.are (any_moved (Held number) (spans ++ ones numbers) all b.moved
          (any_right (Held number) spans (ones numbers) (has_ones numbers number d (has numbers number held)))))
      | inr d ↦ inr ((b.same number).1 (contains (filter is_other numbers) number (has_others numbers number d (has numbers number held))))
    ]

built_holds : (spans all : List SpanView) (numbers singles : List (List ℕ)) → IsBuilt spans all numbers singles → (number : List ℕ)
    → SetHolds (set_of (merged all) singles) number ↔ SetHolds (set_of spans numbers) number
built_holds spans all numbers singles b number = (built_has spans all numbers singles b number, has_built spans all numbers singles b number)

built_few : (spans all : List SpanView) (numbers singles : List (List ℕ)) → IsBuilt spans all numbers singles
    → part_count (set_of (merged all) singles) ≤ length spans + length numbers
built_few spans all numbers singles b =
    let fewer = merged_fewer all in
    let kept = length_permutation (spans ++ ones numbers) all b.moved in
    let joined = length-append spans (ones numbers) in
    let kinds = both_kinds numbers in
    let few = b.few in
    omega (arith, fewer, kept, joined, kinds, few)

-- what is wanted of the set: it is kept in order, has the numbers that were given, and no more entries
pub record Serves (spans made : List SpanView) (numbers singles : List (List ℕ)) : Type 0 where
  pub is_merged : IsMerged (set_of made singles)
  pub holds : (number : List ℕ) → SetHolds (set_of made singles) number ↔ SetHolds (set_of spans numbers) number
  pub few : part_count (set_of made singles) ≤ length spans + length numbers

serves_by : (spans all made : List SpanView) (numbers singles : List (List ℕ)) → IsBuilt spans all numbers singles → made ≡ merged all → Serves spans made numbers singles
serves_by spans all made numbers singles b is = subst (λ (made : List SpanView). Serves spans made numbers singles) (sym is) (record {
  is_merged = built_merged spans all numbers singles b;
  holds = built_holds spans all numbers singles b;
  few = built_few spans all numbers singles b;
})

-- the spans and the numbers as they are read, the spans of both and these in order; what those in order are joined to, and the other numbers
pub serves : (spans read ranked all sorted made : List SpanView) (numbers listed singles : List (List ℕ)) → ranked ≡ read ++ ones listed → read ≡ spans → listed ≡ numbers
    → IsPermutation ranked all → IsNonDecreasingBy (λ span. rank_of span.start) all → made ≡ merged sorted → All IsSpan sorted → sorted ≡ all
    → All (λ number. are_digits number ≡ false) singles → IsStrictlySortedBy (slice_cmp nat_cmp) singles
    → ((number : List ℕ) → Contains singles number ↔ Contains (filter is_other numbers) number) → length singles ≤ length (filter is_other numbers) → Serves spans made numbers singles
serves spans read ranked all sorted made numbers listed singles are_ranked same_spans same_numbers moved rises is are same_sorted others order same few =
    serves_by spans all made numbers singles
    (record {
      moved = subst (λ (xs : List SpanView). IsPermutation xs all) (are_ranked ∙ (λ i. same_spans i ++ ones (same_numbers i))) moved;
      rises = rises;
      are = subst (All IsSpan) same_sorted are;
      others = others;
      order = order;
      same = same;
      few = few;
    })
    (is ∙ ap merged same_sorted)
