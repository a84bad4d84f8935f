-- The place of a number of digits alone, and which entries of a set hold a number.
use Rattle.std.specs.Prelude.{ℕ, Bool, false, ◌&&◌, ◌||◌, ◌==◌, nat_le, nat_lt, List, length, Option, Some, None}
use Rattle.std.specs.Prelude.{if◌then◌else◌}
use Rattle.std.specs.List.{list_any}
use Rattle.std.specs.Str.{bytes_eq}
use Rattle.tn_values.specs.Digit.{are_digits}
use Rattle.tn_values.specs.Span.{SpanView, value_of, end_of}
use Rattle.tn_values.specs.NumberSet.{SetView}
use Rattle.tn_values.specs.declared.places.Place.{Place}

-- how many digits the number has, and its value
abbrev pub place_in : List ℕ → Place
place_in number = record { digits = length number; value = value_of number }

abbrev pub place_of : List ℕ → Option Place
place_of number = if are_digits number then Some (place_in number) else None

-- the number at the place is one of the span
abbrev pub covers : SpanView → Place → Bool
covers span place =
    length span.start == place.digits && nat_le (value_of span.start) place.value && nat_lt place.value (end_of span)

-- the set has the number: digits are looked for among the spans too
abbrev pub spans_have : List SpanView → List ℕ → Bool
spans_have spans number = if are_digits number then list_any (λ span. covers span (place_in number)) spans else false

abbrev pub set_has : SetView → List ℕ → Bool
set_has set number = spans_have set.spans number || list_any (λ single. bytes_eq single number) set.singles
