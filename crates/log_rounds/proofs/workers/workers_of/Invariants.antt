-- The workers so far answer by the answers file.
use Rattle.std.proofs.Common.{◌≡◌, vec_len}
use Rattle.log_rounds.specs.Workers.{AnswerBy}
use Rattle.log_rounds.proofs.workers.workers_of.Given as goal

abbrev pub invariant-workers : goal.invariant-workers
invariant-workers l = record {
  counted : vec_len l.workers ≡ l.counter;
  each : AnswerBy l.fn.answers l.workers.items;
}
