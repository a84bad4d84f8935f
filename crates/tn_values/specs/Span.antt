-- Ranges of telephone numbers, `TelephoneNumberRange` of RFC 8226, section 9: a first number of digits, and how many
-- follow from it on. That a range ends at the last number of its start's length, if its count passes that, is this
-- project's own rule.
use Rattle.std.specs.Prelude.{◌≡◌, ℕ, ◌+◌, ◌^◌, ◌<◌, ◌≤◌, Bool, true, ◌&&◌, nat_le, min, List, length, Option, Some}
use Rattle.std.specs.Prelude.{None, if◌then◌else◌}
use Rattle.std.specs.Str.Parse.{digits_value}
use Rattle.tn_values.specs.Digit.{are_digits}

-- the start of a span and its size, as given
pub record SpanView : Type 0 where
  pub start : List ℕ
  pub size : ℕ

-- the decimal value of a text of digits
abbrev pub value_of : List ℕ → ℕ
value_of digits = digits_value 10 digits

-- the number is one of the span: digits alone, of start's length, from start's value on and less than size above it
pub record SpanHolds (span : SpanView) (number : List ℕ) : Type 0 where
  pub digits : are_digits number ≡ true
  pub same_length : length number ≡ length span.start
  pub from_start : value_of span.start ≤ value_of number
  pub below_end : value_of number < value_of span.start + span.size

-- the start is digits alone, and there is a number in the span
abbrev pub is_span : List ℕ → ℕ → Bool
is_span start size = are_digits start && nat_le 1 size

-- the span of this start and size, if there is one
abbrev pub span_of : List ℕ → ℕ → Option SpanView
span_of start size = if is_span start size then Some (record { start = start; size = size }) else None

-- one past the value of the last number of the span
abbrev pub end_of : SpanView → ℕ
end_of span = min (value_of span.start + span.size) (10 ^ length span.start)
