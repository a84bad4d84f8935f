-- What is held of chains is right before each round, and the workers say the same.
use Rattle.std.proofs.Common.{◌≡◌, Some, length, slice_index_or}
use Rattle.stir_outside.specs.Held.{held_says}
use Rattle.vector_calls.specs.Workers.{SaySame}
use Rattle.verify_service.specs.Service.{HoldsRight}
use Rattle.vector_calls.proofs.logs.judge_rounds.Given as goal

abbrev pub invariant-loop-count : goal.invariant-loop-count
invariant-loop-count g l = record {
  counted : length l.workers ≡ length l.fn.workers;
  same : SaySame l.workers;
  right : (d : _) → HoldsRight (Some l.shelf.files) (held_says (slice_index_or l.workers 0 d).provider.held) l.service;
}
