-- Runs that hand their past on.
use Rattle.std.proofs.Common.{List, [], ◌∷◌}
use Rattle.replay_law.specs.Held.{Held, nothing}
use Rattle.replay_law.specs.Round.{Rounds, purge_at}
use Rattle.replay_law.specs.Runs.{HandOn, LegalInRuns, Run, rounds_in}
use Rattle.replay_law.proofs.Joining.{more_rounds, purged_alone}
use Rattle.replay_law.proofs.LegalLaws.{legal_together}

-- their rounds, with the purges between them, are settled in turn
one_by_one_run : (past next : Held) (runs : List Run) → HandOn past runs next → Rounds past (rounds_in runs) next
one_by_one_run past next [] same = same
one_by_one_run past next (run ∷ others) (left, handed, rounds, purge, more) =
    more_rounds past left next run.rounds (purge_at run.moment ∷ rounds_in others) rounds
    (handed, purged_alone left handed run.moment purge, one_by_one_run handed next others more)

pub legal_in_runs : LegalInRuns
legal_in_runs runs next on fresh falls apart = legal_together (rounds_in runs) next (one_by_one_run nothing next runs on) fresh falls apart
