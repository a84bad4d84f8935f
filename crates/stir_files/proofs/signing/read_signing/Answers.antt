-- The code table is the third of the files that are named.
use Rattle.stir_files.proofs.ListSteps.{is_there}
use Rattle.stir_files.proofs.signing.read_signing.Goals as goal

pub unwrap-requires-4 : goal.unwrap-requires-4
unwrap-requires-4 g c = is_there _ _ c.in_ok-table.ensures.read.1.1.0.holds
