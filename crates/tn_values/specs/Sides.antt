-- Where a number is, as seen from the entries of a set, one after another: its spans first, and then its singles.
use Rattle.std.specs.Prelude.{◌≡◌, ℕ, ◌<◌, ◌≤◌, nat_lt, List, ◌++◌, map, length, Option, Some, None, if◌then◌else◌}
use Rattle.std.specs.Cmp.Lexicographic.{slice_cmp}
use Rattle.std.specs.List.{slice_index_or}
use Rattle.std.specs.Ordering.{nat_cmp}
use Rattle.std.specs.declared.cmp.Ordering.{Ordering}
use Rattle.std.specs.declared.cmp.Ordering.TheVariants.{Less, Equal, Greater}
use Rattle.tn_values.specs.Digit.{are_digits}
use Rattle.tn_values.specs.Span.{SpanView, SpanHolds}
use Rattle.tn_values.specs.NumberSet.{SetView, SetHolds}
use Rattle.tn_values.specs.Merged.{rank_of, rank_behind}
use Rattle.tn_values.specs.declared.sorted.Side.{Side}
use Rattle.tn_values.specs.declared.sorted.Side.TheVariants.{Before, Within, After}

-- the rank of a number, if it is of digits alone
abbrev pub rank_in : List ℕ → Option ℕ
rank_in number = if are_digits number then Some (rank_of number) else None

abbrev pub side_by_rank : SpanView → ℕ → Side
side_by_rank span rank = if nat_lt rank (rank_of span.start) then Before
    else if nat_lt rank (rank_behind span) then Within else After

-- a number that isn't of digits alone comes after every span
abbrev pub side_of_span : List ℕ → SpanView → Side
side_of_span number span = if are_digits number then side_by_rank span (rank_of number) else After

abbrev pub side_by_order : Ordering → Side
side_by_order Less = Before
side_by_order Equal = Within
side_by_order Greater = After

-- a number of digits alone comes before every single
abbrev pub side_of_single : List ℕ → List ℕ → Side
side_of_single number single = if are_digits number then Before else side_by_order (slice_cmp nat_cmp number single)

abbrev pub sides : SetView → List ℕ → List Side
sides set number = map (side_of_span number) set.spans ++ map (side_of_single number) set.singles

-- ---- a search

-- the place of an entry that holds the number; or there is none, and the set doesn't hold it
abbrev pub IsEntryOf : SetView → List ℕ → Option ℕ → Type 0
IsEntryOf set number None = SetHolds set number → ⊥
IsEntryOf set number (Some place) =
    (place < length (sides set number)) × (slice_index_or (sides set number) place Before ≡ Within)

-- the place of a side `Within` in a part of the sides; or none of that part is one
abbrev pub IsFoundIn : List Side → ℕ → ℕ → Option ℕ → Type 0
IsFoundIn all first behind None = (k : ℕ) → first ≤ k → k < behind → slice_index_or all k Before ≡ Within → ⊥
IsFoundIn all first behind (Some place) =
    (first ≤ place) × (place < behind) × (slice_index_or all place Before ≡ Within)

-- the place of a span that holds the number
pub record IsPlaceOf (set : SetView) (number : List ℕ) (place : ℕ) : Type 0 where
  pub inside : place < length set.spans
  pub holds : (own : SpanView) → own ≡ slice_index_or set.spans place own → SpanHolds own number
