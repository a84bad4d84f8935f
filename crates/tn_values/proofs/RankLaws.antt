-- Laws of ranks: numbers of digits alone go by length and then by value, and a span holds the numbers of its ranks.
use Rattle.std.proofs.Common.{◌≡◌, ℕ, zero, suc, ◌+◌, ◌-◌, ◌*◌, ◌^◌, ◌<◌, ◌≤◌, true, ◌⊎◌, inl, inr, List, [], ◌∷◌, length, Any, arith, refl, sym, ap, subst}
use Rattle.std.proofs.Math.Nat.{pow-le-pow_right, pow-suc}
use Rattle.std.proofs.lemmas.Bool.{cases_lt}
use Rattle.tn_values.specs.Digit.{are_digits}
use Rattle.tn_values.specs.Merged.{IsSpan, rank_behind, rank_of}
use Rattle.tn_values.specs.Number.{is_number}
use Rattle.tn_values.specs.Span.{SpanView, SpanHolds, value_of, end_of}
use Rattle.tn_values.proofs.LocalFacts.{number_of_digits}
use Rattle.tn_values.proofs.NumberFacts.{number_parts}
use Rattle.tn_values.proofs.SetLaws.{holds_below}
use Rattle.tn_values.proofs.ValueLaws.{value_below, digits_of_value, text_of}

-- ---- the length that a rank tells

pub longer : (a b : ℕ) → a < b → 10 * 10 ^ a ≤ 10 ^ b
longer a b h =
    let most : 10 ^ suc a ≤ 10 ^ b = pow-le-pow_right (omega arith) (omega (arith, h)) in
    omega (arith, most, pow-suc 10 a)

pub same_length : (m l value : ℕ) → value < 10 ^ m → 10 ^ l ≤ 10 ^ m + value → 10 ^ m + value < 10 ^ l + 10 ^ l → m ≡ l
same_length m l value below from behind =
    elim (cases_lt m l) [
      | inl shorter ↦ let far = longer m l shorter in absurd (omega (arith, far, below, from))
      | inr rest ↦ elim (cases_lt l m) [
        | inl more ↦ let far = longer l m more in absurd (omega (arith, far, behind))
        | inr equal ↦ omega (arith, rest, equal)
      ]
    ]

pub same_power : (m l : ℕ) → m ≡ l → 10 ^ m ≡ 10 ^ l
same_power m l h = ap (λ n. 10 ^ n) h

-- ---- the ranks of a span

pub record InSpan (span : SpanView) (rank : ℕ) : Type 0 where
  pub from : rank_of span.start ≤ rank
  pub before : rank < rank_behind span

abbrev pub InSpans : List SpanView → ℕ → Type 0
InSpans [] rank = ⊥
InSpans (span ∷ spans) rank = InSpan span rank ⊎ InSpans spans rank

pub end_within : (span : SpanView) → end_of span ≤ 10 ^ length span.start
end_within span = omega arith

pub in_span : (span : SpanView) (number : List ℕ) → SpanHolds span number → InSpan span (rank_of number)
in_span span number h =
    let below = holds_below span number h in
    let same = same_power (length number) (length span.start) h.same_length in
    let begins = h.from_start in
    record { from = omega (arith, same, begins); before = omega (arith, same, below) }

pub span_holds : (span : SpanView) (number : List ℕ) → are_digits number ≡ true → InSpan span (rank_of number) → SpanHolds span number
span_holds span number d h =
    let below = value_below number d in
    let within = end_within span in
    let from = h.from in
    let before = h.before in
    let as_long = same_length (length number) (length span.start) (value_of number) below (omega (arith, from)) (omega (arith, before, within)) in
    let same = same_power (length number) (length span.start) as_long in
    let ends : value_of number < end_of span = omega (arith, before, same) in
    record { digits = d; same_length = as_long; from_start = omega (arith, from, same); below_end = omega (arith, ends) }

-- a span has a number
pub begins : (span : SpanView) → IsSpan span → rank_of span.start < rank_behind span
begins span is =
    let below = value_below span.start is.digits in
    let some = is.some in
    omega (arith, below, some)

pub first_in : (span : SpanView) → IsSpan span → InSpan span (rank_of span.start)
first_in span is = record { from = omega arith; before = begins span is }

-- ---- the number of a rank

pub record HasRank (rank : ℕ) (number : List ℕ) : Type 0 where
  pub digits : are_digits number ≡ true
  pub is : is_number number ≡ true
  pub at : rank_of number ≡ rank

pub number_at : (span : SpanView) (rank : ℕ) → IsSpan span → InSpan span rank
    → HasRank rank (digits_of_value (length span.start) (rank - 10 ^ length span.start))
number_at span rank is h =
    let within = end_within span in
    let parts = number_parts span.start is.number in
    let from = h.from in
    let before = h.before in
    let text = text_of (length span.start) (rank - 10 ^ length span.start) (omega (arith, from, before, within)) in
    let number : List ℕ = digits_of_value (length span.start) (rank - 10 ^ length span.start) in
    let same = same_power (length number) (length span.start) text.as_long in
    record {
      digits = text.digits;
      is = number_of_digits number (omega (arith, text.as_long, parts.some)) (omega (arith, text.as_long, parts.short)) text.digits;
      at = omega (arith, same, text.of_value, from);
    }

-- ---- the ranks of spans

pub later : (P : SpanView → Type 0) (span : SpanView) (spans : List SpanView) → Any P spans → Any P (span ∷ spans)
later P span spans (k, found, inside, is, h) = (suc k, found, omega (arith, inside), is, h)

pub in_spans : (spans : List SpanView) (number : List ℕ) → Any (λ span. SpanHolds span number) spans → InSpans spans (rank_of number)
in_spans [] number (k, span, inside, at, h) = absurd (omega (arith, inside))
in_spans (first ∷ spans) number (zero, span, inside, at, h) = inl (in_span first number (subst (λ s. SpanHolds s number) (sym at) h))
in_spans (first ∷ spans) number (suc k, span, inside, at, h) = inr (in_spans spans number (k, span, omega (arith, inside), at, h))

pub spans_hold : (spans : List SpanView) (number : List ℕ) → are_digits number ≡ true → InSpans spans (rank_of number) → Any (λ span. SpanHolds span number) spans
spans_hold [] number d h = absurd h
spans_hold (first ∷ spans) number d (inl h) = (0, first, omega arith, refl, span_holds first number d h)
spans_hold (first ∷ spans) number d (inr h) = later (λ span. SpanHolds span number) first spans (spans_hold spans number d h)

pub digits_held : (spans : List SpanView) (number : List ℕ) → Any (λ span. SpanHolds span number) spans → are_digits number ≡ true
digits_held spans number (k, span, inside, at, h) = h.digits
