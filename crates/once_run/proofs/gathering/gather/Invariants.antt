use Rattle.std.proofs.Common.{◌≡◌, ◌<◌, ◌%◌, ℕ, length, slice_index_or}
use Rattle.once_run.specs.Work.{claim_at}
use Rattle.once_run.proofs.gathering.gather.Given as goal

abbrev pub invariant-loop-index : goal.invariant-loop-index
invariant-loop-index l = record {
  same : length l.claims.items ≡ length l.initial.claims.items;
  each : (i : ℕ) (d : _) → i < l.index → claim_at l.claims.items i ≡ claim_at (slice_index_or l.workers (i % length l.workers) d).claims.items i;
}
