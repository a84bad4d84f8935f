-- The state is the fifth of the files that are named.
use Rattle.stir_files.proofs.ListSteps.{is_there}
use Rattle.stir_files.proofs.going.read_going.Goals as goal

pub unwrap-requires : goal.unwrap-requires
unwrap-requires g c = is_there _ _ c.in_ok-chains.ensures.read.1.1.1.1.0.holds
