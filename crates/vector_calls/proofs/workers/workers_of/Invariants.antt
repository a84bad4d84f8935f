-- Each worker so far says what the answers hold.
use Rattle.std.proofs.Common.{◌≡◌, vec_len}
use Rattle.stir_outside.specs.Held.{held_says}
use Rattle.vector_calls.proofs.WorkerLaws.{SayThis}
use Rattle.vector_calls.proofs.workers.workers_of.Given as goal

abbrev pub invariant-workers : goal.invariant-workers
invariant-workers l = record {
  counted : vec_len l.workers ≡ l.counter;
  each : SayThis (held_says l.fn.answers) l.workers.items;
}
