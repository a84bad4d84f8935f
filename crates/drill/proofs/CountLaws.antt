-- What is counted call by call is what the summary says of all calls.
use Rattle.std.proofs.Common.{◌≡◌, ℕ, ◌+◌, ◌<◌, ◌≤◌, Bool, true, false, List, [], ◌∷◌, ◌++◌, length, refl, ◌∙◌, arith}
use Rattle.stir_outside.specs.Count.{last_count, one_more}
use Rattle.verify_service.specs.declared.outcome.Outcome.{Outcome}
use Rattle.drill.specs.Counts.{more_if, no_counts, summary_of, with_all, with_one}
use Rattle.drill.specs.Summary.{as_one, count_as, is_refused, is_replay, summary}
use Rattle.verify_service.specs.Adding.{is_valid}
use Rattle.drill.specs.declared.counts.Counts.{Counts}

-- more calls after those that were counted
pub all_both : (counts : Counts) (xs ys : List Outcome) → with_all counts (xs ++ ys) ≡ with_all (with_all counts xs) ys
all_both counts [] ys = refl
all_both counts (x ∷ xs) ys = all_both (with_one counts x) xs ys

one_up : (count : ℕ) → count < last_count → one_more count ≡ count + 1
one_up count h = omega (arith, h)

up_by : (t : Bool) (count : ℕ) → count < last_count → more_if t count ≡ count + as_one t
up_by true count h = one_up count h
up_by false count h = omega arith

at_most : (t : Bool) → as_one t ≤ 1
at_most true = omega arith
at_most false = omega arith

-- a count of those of which this holds
counted : (test : Outcome → Bool) (field : Counts → ℕ) → ((counts : Counts) (outcome : Outcome) → field (with_one counts outcome) ≡ more_if (test outcome) (field counts))
    → (counts : Counts) (outcomes : List Outcome) → field counts + length outcomes ≤ last_count → field (with_all counts outcomes) ≡ field counts + count_as (λ outcome. as_one (test outcome)) outcomes
counted test field step counts [] room = omega arith
counted test field step counts (outcome ∷ outcomes) room =
    let here : field (with_one counts outcome) ≡ field counts + as_one (test outcome) = step counts outcome ∙ up_by (test outcome) (field counts) (omega (arith, room)) in
    let most = at_most (test outcome) in
    let below = counted test field step (with_one counts outcome) outcomes (omega (arith, here, most, room)) in
    omega (arith, here, below)

all_counted : (counts : Counts) (outcomes : List Outcome) → counts.calls + length outcomes ≤ last_count → (with_all counts outcomes).calls ≡ counts.calls + length outcomes
all_counted counts [] room = omega arith
all_counted counts (outcome ∷ outcomes) room =
    let here : one_more counts.calls ≡ counts.calls + 1 = one_up counts.calls (omega (arith, room)) in
    let below = all_counted (with_one counts outcome) outcomes (omega (arith, here, room)) in
    omega (arith, here, below)

pub calls_are : (outcomes : List Outcome) → length outcomes ≤ last_count → (with_all no_counts outcomes).calls ≡ length outcomes
calls_are outcomes room = let all = all_counted no_counts outcomes (omega (arith, room)) in omega (arith, all)

from_none : (test : Outcome → Bool) (field : Counts → ℕ) → ((counts : Counts) (outcome : Outcome) → field (with_one counts outcome) ≡ more_if (test outcome) (field counts)) → field no_counts ≡ 0
    → (outcomes : List Outcome) → length outcomes ≤ last_count → field (with_all no_counts outcomes) ≡ count_as (λ outcome. as_one (test outcome)) outcomes
from_none test field step none outcomes room =
    let all = counted test field step no_counts outcomes (omega (arith, none, room)) in
    omega (arith, all, none)

pub summary_is : (outcomes : List Outcome) → length outcomes ≤ last_count → summary_of (with_all no_counts outcomes) ≡ summary outcomes
summary_is outcomes room =
    rw (
      calls_are outcomes room,
      from_none is_valid (λ c. c.valid) (λ c o. refl) refl outcomes room,
      from_none is_replay (λ c. c.replays) (λ c o. refl) refl outcomes room,
      from_none (is_refused 403) (λ c. c.refused_403) (λ c o. refl) refl outcomes room,
      from_none (is_refused 428) (λ c. c.refused_428) (λ c o. refl) refl outcomes room,
      from_none (is_refused 437) (λ c. c.refused_437) (λ c o. refl) refl outcomes room,
      from_none (is_refused 438) (λ c. c.refused_438) (λ c o. refl) refl outcomes room,
    ) refl
