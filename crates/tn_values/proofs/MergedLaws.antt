-- Laws of a set as it is kept: one span has all numbers of a span that the set has, a number that is missing, and sets of the same
-- numbers are kept alike.
use Rattle.std.proofs.Common.{◌≡◌, ℕ, suc, ◌-◌, ◌^◌, ◌<◌, ◌≤◌, Bool, true, false, cond, Some, None, ◌&&◌, nat_le, inl, inr, List, [], ◌∷◌, length, Contains, arith, refl, sym, subst}
use Rattle.std.proofs.lemmas.Bool.{and_parts}
use Rattle.std.proofs.lemmas.Bool.Decides.{nat_tests}
use Rattle.std.proofs.lemmas.List.Elements.{All-contains}
use Rattle.tn_values.specs.Digit.{are_digits}
use Rattle.tn_values.specs.Merged.{AreApart, IsMerged, IsSpan, rank_behind, rank_of}
use Rattle.tn_values.specs.Number.{is_number}
use Rattle.tn_values.specs.NumberSet.{Gap, IsWithin, OneSpanHolds, SetHolds, SetView}
use Rattle.tn_values.specs.Span.{SpanView, SpanHolds, is_span, span_of}
use Rattle.tn_values.proofs.ApartLaws.{Reaches, none_behind, one_span, same_spans}
use Rattle.tn_values.proofs.RankLaws.{HasRank, InSpan, InSpans, begins, digits_held, first_in, in_span, in_spans, number_at, span_holds, spans_hold}
use Rattle.tn_values.proofs.TextLaws.{same_texts}
use Rattle.tn_values.proofs.ValueLaws.{digits_of_value}

-- ---- what the set holds, by ranks

-- a number of digits alone that the set holds is in a span
pub held_rank : (set : SetView) (number : List ℕ) → IsMerged set → are_digits number ≡ true → SetHolds set number → InSpans set.spans (rank_of number)
held_rank set number m d (inl held) = in_spans set.spans number held
held_rank set number m d (inr held) =
    let other = All-contains (λ n. are_digits n ≡ false) set.singles number m.others held in
    absurd cc

-- any other that it holds is a single
pub held_single : (set : SetView) (number : List ℕ) → are_digits number ≡ false → SetHolds set number → Contains set.singles number
held_single set number d (inl held) = let digits = digits_held set.spans number held in absurd cc
held_single set number d (inr held) = held

-- a rank of the spans is that of a number
record Ranked (spans : List SpanView) (rank : ℕ) : Type 0 where
  number : List ℕ
  has : HasRank rank number

ranked : (spans : List SpanView) (low rank : ℕ) → AreApart low spans → InSpans spans rank → Ranked spans rank
ranked [] low rank apart h = absurd h
ranked (span ∷ spans) low rank (begin, whole, rest) (inl h) = record { number = digits_of_value (length span.start) (rank - 10 ^ length span.start); has = number_at span rank whole.is h }
ranked (span ∷ spans) low rank (begin, whole, rest) (inr h) =
    let more = ranked spans (suc (rank_behind span)) rank rest h in
    record { number = more.number; has = more.has }

rank_held : (set other : SetView) → IsMerged set → IsMerged other → IsWithin set other → (rank : ℕ) → InSpans set.spans rank → InSpans other.spans rank
rank_held set other m n within rank h =
    let at = ranked set.spans 0 rank m.apart h in
    let there = subst (λ r. InSpans set.spans r) (sym at.has.at) h in
    let held = within at.number (inl (spans_hold set.spans at.number at.has.digits there)) in
    subst (λ r. InSpans other.spans r) at.has.at (held_rank other at.number n at.has.digits held)

-- ---- sets of the same numbers

pub kept_spans : (set other : SetView) → IsMerged set → IsMerged other → IsWithin set other → IsWithin other set → set.spans ≡ other.spans
kept_spans set other m n within back =
    same_spans set.spans other.spans 0 0 m.apart n.apart (rank_held set other m n within) (rank_held other set n m back)

single_held : (set other : SetView) → IsMerged set → IsWithin set other → (number : List ℕ) → Contains set.singles number → Contains other.singles number
single_held set other m within number c =
    held_single other number (All-contains (λ n. are_digits n ≡ false) set.singles number m.others c) (within number (inr c))

pub kept_singles : (set other : SetView) → IsMerged set → IsMerged other → IsWithin set other → IsWithin other set → set.singles ≡ other.singles
kept_singles set other m n within back =
    same_texts set.singles other.singles m.order n.order (single_held set other m within) (single_held other set n back)

-- ---- one span has all numbers of a span

span_reached : (span own : SpanView) → Reaches (rank_of span.start) (rank_behind span) own → (number : List ℕ) → SpanHolds span number → SpanHolds own number
span_reached span own (from, behind) number h =
    let at = in_span span number h in
    let first = at.from in
    let before = at.before in
    span_holds own number h.digits (record { from = omega (arith, from, first); before = omega (arith, behind, before) })

pub span_from : (span : SpanView) → is_number span.start ≡ true → is_span span.start span.size ≡ true → IsSpan span
span_from span number is =
    let parts = and_parts (are_digits span.start) (nat_le 1 span.size) is in
    record { number = number; digits = parts.0; some = grind (arith, nat_tests, parts.1) }

span_rank : (set : SetView) (span : SpanView) → IsMerged set → IsSpan span → ((number : List ℕ) → SpanHolds span number → SetHolds set number)
    → (rank : ℕ) → InSpan span rank → InSpans set.spans rank
span_rank set span m is all rank h =
    let number : List ℕ = digits_of_value (length span.start) (rank - 10 ^ length span.start) in
    let has = number_at span rank is h in
    let held = all number (span_holds span number has.digits (subst (λ r. InSpan span r) (sym has.at) h)) in
    subst (λ r. InSpans set.spans r) has.at (held_rank set number m has.digits held)

digits_by : (span : SpanView) (b : Bool) → are_digits span.start ≡ b
    → cond (b && nat_le 1 span.size) (Some (record { start = span.start; size = span.size })) None ≡ Some span → are_digits span.start ≡ true
digits_by span true d h = d
digits_by span false d h = absurd cc

pub span_digits : (span : SpanView) → span_of span.start span.size ≡ Some span → are_digits span.start ≡ true
span_digits span h = digits_by span (are_digits span.start) refl h

pub one_entry : (set : SetView) (span : SpanView) → IsMerged set → IsSpan span
    → ((number : List ℕ) → SpanHolds span number → SetHolds set number) → OneSpanHolds set.spans span
one_entry set span m is all =
    let found = one_span set.spans 0 (rank_of span.start) (rank_behind span) m.apart (begins span is)
    (λ rank from before. span_rank set span m is all rank (record { from = from; before = before })) in
    (found.0, found.1, found.2, found.3, span_reached span found.1 found.4)

-- ---- the span that holds the first number, or the number after it

-- if it reaches as far, it has all numbers
pub all_by_first : (set : SetView) (span own : SpanView) → Contains set.spans own → SpanHolds own span.start → rank_behind span ≤ rank_behind own
    → (number : List ℕ) → SpanHolds span number → SetHolds set number
all_by_first set span own there first reaches number h =
    let at = in_span own span.start first in
    let from = at.from in
    inl (there.0, own, there.1, there.2, span_reached span own (from, reaches) number h)

-- if no span holds the first number, this is missing
pub first_gap : (set : SetView) (span : SpanView) → IsSpan span → (SetHolds set span.start → ⊥) → Gap span set
first_gap set span is not = record {
  number = span.start;
  is = is.number;
  held = span_holds span span.start is.digits (first_in span is);
  not_held = not;
}

-- if it ends before, the number after it is missing
pub gap_behind : (set : SetView) (span own : SpanView) → IsMerged set → IsSpan span → Contains set.spans own → SpanHolds own span.start
    → rank_behind own < rank_behind span → Gap span set
gap_behind set span own m is there first short =
    let at = in_span own span.start first in
    let before = at.before in
    let there_in : InSpan span (rank_behind own) = record { from = omega (arith, before); before = short } in
    let number : List ℕ = digits_of_value (length span.start) (rank_behind own - 10 ^ length span.start) in
    let has = number_at span (rank_behind own) is there_in in
    record {
      number = number;
      is = has.is;
      held = span_holds span number has.digits (subst (λ r. InSpan span r) (sym has.at) there_in);
      not_held = λ held. none_behind set.spans 0 own m.apart there (subst (λ r. InSpans set.spans r) has.at (held_rank set number m has.digits held));
    }
