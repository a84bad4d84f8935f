-- How a set keeps its numbers: spans in order, of which none touches the next, and the other numbers in order. This
-- project's own rule.
use Rattle.std.specs.Prelude.{◌≡◌, ℕ, suc, ◌+◌, ◌-◌, ◌^◌, ◌≤◌, true, false, nat_le, max, List, [], ◌∷◌, length}
use Rattle.std.specs.Prelude.{if◌then◌else◌}
use Rattle.std.specs.Cmp.Lexicographic.{slice_cmp}
use Rattle.std.specs.List.{All}
use Rattle.std.specs.List.Sorted.{IsStrictlySortedBy}
use Rattle.std.specs.Ordering.{nat_cmp}
use Rattle.tn_values.specs.Digit.{are_digits}
use Rattle.tn_values.specs.Number.{is_number}
use Rattle.tn_values.specs.Span.{SpanView, value_of, end_of}
use Rattle.tn_values.specs.NumberSet.{SetView}

-- the rank of a number of digits alone among all such numbers, which go by length and then by value
abbrev pub rank_of : List ℕ → ℕ
rank_of number = 10 ^ length number + value_of number

-- one past the rank of the span's last number
abbrev pub rank_behind : SpanView → ℕ
rank_behind span = 10 ^ length span.start + end_of span

-- ---- how a set keeps its numbers

-- the start is a number of digits alone, and there is a number in the span
pub record IsSpan (span : SpanView) : Type 0 where
  pub number : is_number span.start ≡ true
  pub digits : are_digits span.start ≡ true
  pub some : 1 ≤ span.size

-- a span whose size doesn't pass the last number of its start's length
pub record IsWhole (span : SpanView) : Type 0 where
  pub is : IsSpan span
  pub fits : value_of span.start + span.size ≤ 10 ^ length span.start

-- spans from a rank on, in order, of which none overlaps or touches the next
abbrev pub AreApart : ℕ → List SpanView → Type 0
AreApart from [] = Unit {0}
AreApart from (span ∷ spans) = (from ≤ rank_of span.start) × IsWhole span × AreApart (suc (rank_behind span)) spans

-- a set as it is kept: spans apart from each other, and numbers that aren't of digits alone, sorted by their bytes,
-- each once
pub record IsMerged (set : SetView) : Type 0 where
  pub apart : AreApart 0 set.spans
  pub others : All (λ number. are_digits number ≡ false) set.singles
  pub order : IsStrictlySortedBy (slice_cmp nat_cmp) set.singles

-- ---- how spans are merged

-- the span with the size that it has within the numbers of its length
abbrev pub clipped : SpanView → SpanView
clipped span = record { start = span.start; size = rank_behind span - rank_of span.start }

-- the span, made so large that it reaches the end of the other
abbrev pub joined : SpanView → SpanView → SpanView
joined span other =
    record { start = span.start; size = max (rank_behind span) (rank_behind other) - rank_of span.start }

-- what a span and those after it, in order, come to if each that touches the one before it is joined to it
abbrev pub merged_from : SpanView → List SpanView → List SpanView
merged_from span [] = span ∷ []
merged_from span (other ∷ others) =
    if nat_le (rank_of other.start) (rank_behind span) then merged_from (joined span other) others
    else span ∷ merged_from (clipped other) others

abbrev pub merged : List SpanView → List SpanView
merged [] = []
merged (span ∷ spans) = merged_from (clipped span) spans
