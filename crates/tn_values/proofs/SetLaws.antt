-- What the tests of a set say: which numbers it holds.
use Rattle.std.proofs.Common.{◌≡◌, ℕ, ◌^◌, ◌<◌, Bool, true, false, cond, ◌&&◌, ◌==◌, nat_le, nat_lt, inl, inr, List, length, Any, Contains, arith, refl, sym, ◌∙◌, ap, subst, Some, None}
use Rattle.lists.proofs.Bytes.{bytes_same, same_bytes}
use Rattle.std.proofs.lemmas.Bool.{and_parts, or_cases, or_left, or_right}
use Rattle.std.proofs.lemmas.Bool.Decides.{nat_tests}
use Rattle.std.proofs.lemmas.List.Folds.{Any-from_list_any, list_any-from_Any}
use Rattle.std.specs.List.{list_any, slice_index_or}
use Rattle.std.specs.Str.{bytes_eq}
use Rattle.tn_values.specs.Digit.{are_digits}
use Rattle.tn_values.specs.Span.{SpanView, SpanHolds, value_of, end_of}
use Rattle.tn_values.specs.NumberSet.{SetView, SetHolds}
use Rattle.tn_values.specs.Place.{place_in, place_of, covers, spans_have, set_has}
use Rattle.tn_values.specs.declared.places.Place.{Place}
use Rattle.tn_values.proofs.ValueLaws.{value_below}

covers_holds : (span : SpanView) (number : List ℕ) → are_digits number ≡ true → covers span (place_in number) ≡ true → SpanHolds span number
covers_holds span number d h =
    let ends = and_parts (length span.start == length number && nat_le (value_of span.start) (value_of number)) (nat_lt (value_of number) (end_of span)) h in
    let begins = and_parts (length span.start == length number) (nat_le (value_of span.start) (value_of number)) ends.0 in
    let above : value_of number < end_of span = grind (arith, nat_tests, ends.1) in
    record {
      digits = d;
      same_length = grind (arith, nat_tests, begins.0);
      from_start = grind (arith, nat_tests, begins.1);
      below_end = omega (arith, above);
    }

-- a number of a span is below the span's end
pub holds_below : (span : SpanView) (number : List ℕ) → SpanHolds span number → value_of number < end_of span
holds_below span number h =
    let below = value_below number h.digits in
    let same : 10 ^ length number ≡ 10 ^ length span.start = ap (λ n. 10 ^ n) h.same_length in
    omega (arith, below, same, h.below_end)

pub holds_covers : (span : SpanView) (number : List ℕ) → SpanHolds span number → covers span (place_in number) ≡ true
holds_covers span number h =
    let below = holds_below span number h in
    let same = h.same_length in
    let begins = h.from_start in
    grind (arith, nat_tests)

-- ---- a number at its place

at_place : (number : List ℕ) (place : Place) (d : Bool) → are_digits number ≡ d → cond d (Some (place_in number)) None ≡ Some place
    → (are_digits number ≡ true) × (place_in number ≡ place)
at_place number place true d h = (d, cc)
at_place number place false d h = absurd cc

pub covered_place : (span : SpanView) (number : List ℕ) (place : Place) → place_of number ≡ Some place → covers span place ≡ true → SpanHolds span number
covered_place span number place h had =
    let at = at_place number place (are_digits number) refl h in
    covers_holds span number at.0 (ap (covers span) at.1 ∙ had)

pub held_place : (span : SpanView) (number : List ℕ) (place : Place) → place_of number ≡ Some place → SpanHolds span number → covers span place ≡ true
held_place span number place h held =
    let at = at_place number place (are_digits number) refl h in
    ap (covers span) (sym at.1) ∙ holds_covers span number held

-- ---- the spans

spans_hold_by : (spans : List SpanView) (number : List ℕ) (b : Bool) → are_digits number ≡ b
    → cond b (list_any (λ span. covers span (place_in number)) spans) false ≡ true → Any (λ span. SpanHolds span number) spans
spans_hold_by spans number true d h =
    let found = Any-from_list_any (λ span. covers span (place_in number)) spans h in
    (found.0, found.1, found.2, found.3, covers_holds found.1 number d found.4)
spans_hold_by spans number false d h = cc

spans_hold : (spans : List SpanView) (number : List ℕ) → spans_have spans number ≡ true → Any (λ span. SpanHolds span number) spans
spans_hold spans number h = spans_hold_by spans number (are_digits number) refl h

held_spans : (spans : List SpanView) (number : List ℕ) → Any (λ span. SpanHolds span number) spans → spans_have spans number ≡ true
held_spans spans number (k, span, inside, is, h) =
    let digits : are_digits number ≡ true = h.digits in
    ap (λ b. cond b (list_any (λ span. covers span (place_in number)) spans) false) digits
    ∙ list_any-from_Any (λ span. covers span (place_in number)) spans (k, span, inside, is, holds_covers span number h)

-- ---- the singles

singles_hold : (singles : List (List ℕ)) (number : List ℕ) → list_any (λ single. bytes_eq single number) singles ≡ true → Contains singles number
singles_hold singles number h =
    let found = Any-from_list_any (λ single. bytes_eq single number) singles h in
    let same : found.1 ≡ number = bytes_same found.1 number found.4 in
    let P : List ℕ → Type 0 = λ x. slice_index_or singles found.0 x ≡ x in
    (found.0, found.2, subst P same found.3)

held_singles : (singles : List (List ℕ)) (number : List ℕ) → Contains singles number → list_any (λ single. bytes_eq single number) singles ≡ true
held_singles singles number (k, inside, is) =
    list_any-from_Any (λ single. bytes_eq single number) singles (k, number, inside, is, same_bytes number)

-- ---- the set

pub has_means : (set : SetView) (number : List ℕ) → set_has set number ≡ true → SetHolds set number
has_means set number h =
    elim (or_cases (spans_have set.spans number) (list_any (λ single. bytes_eq single number) set.singles) h)
    [ inl s ↦ inl (spans_hold set.spans number s) | inr s ↦ inr (singles_hold set.singles number s) ]

pub means_has : (set : SetView) (number : List ℕ) → SetHolds set number → set_has set number ≡ true
means_has set number (inl s) = or_left (spans_have set.spans number) (list_any (λ single. bytes_eq single number) set.singles) (held_spans set.spans number s)
means_has set number (inr s) = or_right (spans_have set.spans number) (list_any (λ single. bytes_eq single number) set.singles) (held_singles set.singles number s)
