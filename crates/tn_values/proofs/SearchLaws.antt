-- The search among sides in order: each step leaves a part in which the side `Within` may be.
use Rattle.std.proofs.Common.{◌≡◌, ℕ, ◌+◌, ◌-◌, ◌/◌, ◌<◌, ◌≤◌, List, length, arith, sym, ◌∙◌, subst}
use Rattle.std.proofs.lemmas.List.{get_or_default}
use Rattle.std.specs.List.{slice_index_or}
use Rattle.tn_values.specs.Merged.{IsMerged}
use Rattle.tn_values.specs.NumberSet.{SetView, part_count}
use Rattle.tn_values.specs.Sides.{sides}
use Rattle.tn_values.specs.declared.sorted.Side.{Side}
use Rattle.tn_values.specs.declared.sorted.Side.TheVariants.{Before, After}
use Rattle.tn_values.proofs.OrderLaws.{InOrder, sides_order, stays_before, was_after}
use Rattle.tn_values.proofs.SideLaws.{side_count}

-- of the sides from `first` on and before `behind`, those before `low` are `After` and those from `high` on are `Before`
pub record Searched (all : List Side) (first behind low high : ℕ) : Type 0 where
  pub from : first ≤ low
  pub range : low ≤ high
  pub within : high ≤ behind
  pub below : (k : ℕ) → first ≤ k → k < low → slice_index_or all k Before ≡ After
  pub above : (k : ℕ) → high ≤ k → k < behind → slice_index_or all k Before ≡ Before

pub goes_down : (all : List Side) (first behind low high middle : ℕ) → Searched all first behind low high → InOrder all → behind ≤ length all
    → low ≤ middle → middle < high → slice_index_or all middle Before ≡ Before → Searched all first behind low middle
goes_down all first behind low high middle s order inside from before is = record {
  from = s.from;
  range = from;
  within = (let ends = s.within in omega (arith, before, ends));
  below = s.below;
  above = λ k at end. stays_before all middle k Before order at (omega (arith, end, inside)) is;
}

pub goes_up : (all : List Side) (first behind low high middle : ℕ) → Searched all first behind low high → InOrder all → behind ≤ length all
    → low ≤ middle → middle < high → slice_index_or all middle Before ≡ After → Searched all first behind (middle + 1) high
goes_up all first behind low high middle s order inside from before is = record {
  from = (let begin = s.from in omega (arith, begin, from));
  range = omega (arith, before);
  within = s.within;
  below = λ k at end. (let ends = s.within in was_after all k middle Before order (omega (arith, end)) (omega (arith, before, ends, inside)) is);
  above = s.above;
}

-- the same at the middle of what is left, of the sides of a number to the entries of a set, as a probe gives them
pub search_down : (set : SetView) (number : List ℕ) (first behind low high : ℕ) (side : Side) → Searched (sides set number) first behind low high → IsMerged set
    → behind ≤ part_count set → low < high → side ≡ Before → side ≡ slice_index_or (sides set number) (low + (high - low) / 2) side
    → Searched (sides set number) first behind low (low + (high - low) / 2)
search_down set number first behind low high side s merged inside left is probed =
    let count = side_count set number in
    goes_down (sides set number) first behind low high (low + (high - low) / 2) s (sides_order set number merged) (omega (arith, count, inside))
    (omega arith) (omega (arith, left)) (sym (subst (λ (x : Side). x ≡ slice_index_or (sides set number) (low + (high - low) / 2) x) is probed))

pub search_up : (set : SetView) (number : List ℕ) (first behind low high : ℕ) (side : Side) → Searched (sides set number) first behind low high → IsMerged set
    → behind ≤ part_count set → low < high → side ≡ After → side ≡ slice_index_or (sides set number) (low + (high - low) / 2) side
    → Searched (sides set number) first behind (low + (high - low) / 2 + 1) high
search_up set number first behind low high side s merged inside left is probed =
    let count = side_count set number in
    let ends = s.within in
    goes_up (sides set number) first behind low high (low + (high - low) / 2) s (sides_order set number merged) (omega (arith, count, inside))
    (omega arith) (omega (arith, left))
    (get_or_default (sides set number) (low + (high - low) / 2) Before After (omega (arith, count, inside, ends, left))
    ∙ sym (subst (λ (x : Side). x ≡ slice_index_or (sides set number) (low + (high - low) / 2) x) is probed))
