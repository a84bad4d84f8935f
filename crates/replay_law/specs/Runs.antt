-- Runs that hand their past on, each to the next (this project's own rule).
use Rattle.std.specs.Prelude.{ℕ, List, [], ◌∷◌, ◌++◌}
use Rattle.replay_law.specs.Held.{Held, nothing, Same, purged}
use Rattle.replay_law.specs.Law.{IsFresh, NeverFalls, IsApart}
use Rattle.replay_law.specs.Log.{RowsLegal}
use Rattle.replay_law.specs.Round.{Round, Rounds, purge_at}

-- a run: the rounds that it answered, and the moment by which its past was purged when it was handed on
pub record Run : Type 0 where
  pub rounds : List Round
  pub moment : ℕ

-- the rounds of all runs, in their order; if a run hands its past on, a round without calls purges it
abbrev pub rounds_in : List Run → List Round
rounds_in [] = []
rounds_in (run ∷ others) = run.rounds ++ purge_at run.moment ∷ rounds_in others

-- the rounds of each run are settled in turn, over what the run before it handed on
abbrev pub HandOn : Held → List Run → Held → Type 0
HandOn past [] next = Same past next
HandOn past (run ∷ others) next = (left : Held) × (handed : Held) × Rounds past run.rounds left
    × Same (purged run.moment left) handed × HandOn handed others next

-- Runs that hand their past on, the first from an empty one, are legal together. So handing on lets no ticket pass
-- twice.
abbrev pub LegalInRuns : Type 0
LegalInRuns = (runs : List Run) (next : Held) → HandOn nothing runs next → IsFresh (rounds_in runs)
    → NeverFalls (rounds_in runs) → IsApart (rounds_in runs) → RowsLegal (rounds_in runs)
