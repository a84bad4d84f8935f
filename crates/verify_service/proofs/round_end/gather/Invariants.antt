-- The outcomes so far are those of the workers.
use Rattle.std.proofs.Common.{◌≡◌, ◌<◌, ◌%◌, ℕ, length, vec_len, slice_index_or}
use Rattle.verify_service.specs.Carrying.{out_at}
use Rattle.verify_service.proofs.round_end.gather.Given as goal

abbrev pub invariant-calls : goal.invariant-calls
invariant-calls g l = record {
  counted : vec_len l.outcomes ≡ vec_len l.fn.outcomes;
  each : (at : ℕ) (d : _) → at < l.at → out_at l.outcomes.items at ≡ out_at (slice_index_or l.workers (at % length l.workers) d).outcomes at;
}
