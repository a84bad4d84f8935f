-- One set within another: its spans and its singles, each in turn.
use Rattle.std.proofs.Common.{◌≡◌, ℕ, ◌<◌, true, inl, inr, List, [], length, arith, sym}
use Rattle.std.specs.List.{slice_index_or}
use Rattle.tn_values.specs.Number.{is_number}
use Rattle.tn_values.specs.Span.{SpanView, SpanHolds}
use Rattle.tn_values.specs.NumberSet.{SetView, set_of, SetHolds, IsWithin, Outside}

-- the set has every number of the spans before the i-th
pub record HasSpans (spans : List SpanView) (set : SetView) (i : ℕ) : Type 0 where
  pub each : (k : ℕ) (span : SpanView) → k < i → slice_index_or spans k span ≡ span → (number : List ℕ) → SpanHolds span number → SetHolds set number

-- the set has every single before the i-th
pub record HasSingles (singles : List (List ℕ)) (set : SetView) (i : ℕ) : Type 0 where
  pub each : (k : ℕ) (number : List ℕ) → k < i → slice_index_or singles k number ≡ number → SetHolds set number

-- ---- a number that is missing

pub single_outside : (singles : List (List ℕ)) (set : SetView) (i : ℕ) (item : List ℕ) → i < length singles → item ≡ slice_index_or singles i item
    → is_number item ≡ true → (SetHolds set item → ⊥) → Outside (set_of [] singles) set
single_outside singles set i item inside at is not = record { number = item; is = is; held = inr (i, inside, sym at); not_held = not }

-- ---- both parts

pub both_within : (set other : SetView) → IsWithin (set_of [] set.singles) other → IsWithin (set_of set.spans []) other → IsWithin set other
both_within set other singles spans number (inl s) = spans number (inl s)
both_within set other singles spans number (inr s) = singles number (inr s)

spans_within : (set other : SetView) (number : List ℕ) → SetHolds (set_of set.spans []) number → SetHolds set number
spans_within set other number (inl s) = inl s
spans_within set other number (inr (k, inside, is)) = absurd (omega (arith, inside))

singles_within : (set other : SetView) (number : List ℕ) → SetHolds (set_of [] set.singles) number → SetHolds set number
singles_within set other number (inl (k, span, inside, is, holds)) = absurd (omega (arith, inside))
singles_within set other number (inr s) = inr s

pub spans_outside : (set other : SetView) → Outside (set_of set.spans []) other → Outside set other
spans_outside set other o = record { number = o.number; is = o.is; held = spans_within set other o.number o.held; not_held = o.not_held }

pub singles_outside : (set other : SetView) → Outside (set_of [] set.singles) other → Outside set other
singles_outside set other o = record { number = o.number; is = o.is; held = singles_within set other o.number o.held; not_held = o.not_held }
