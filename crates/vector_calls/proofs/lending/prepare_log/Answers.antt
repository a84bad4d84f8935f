-- The worker says the same, as it lies in the slice.
use Rattle.std.proofs.Common.{subst, sym}
use Rattle.vector_calls.specs.Workers.{SaySame}
use Rattle.vector_calls.proofs.lending.prepare_log.Goals as goal

pub prepare-requires-clause-same : goal.prepare-requires-clause-same
prepare-requires-clause-same g c κs within = subst SaySame (sym c.as_mut_slice.ensures.value) c.in_ok-workers.ensures.same
