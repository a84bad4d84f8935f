-- The workers say the same, as they lie in the slice.
use Rattle.std.proofs.Common.{subst, sym}
use Rattle.vector_calls.specs.Workers.{SaySame}
use Rattle.vector_calls.proofs.logs.LogCase.judge.Goals as goal

pub judge_rounds-requires-clause-same : goal.judge_rounds-requires-clause-same
judge_rounds-requires-clause-same g c κs within = subst SaySame (sym c.as_mut_slice.ensures.value) c.requires.same
