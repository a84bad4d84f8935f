-- The laws of batches after one another.
use Rattle.log_run.proofs.BatchLaws.{calls_both, texts_both, well_both}
use Rattle.log_run.proofs.laws.batch_law.Goals as goal

pub returns-clause-calls : goal.returns-clause-calls
returns-clause-calls c = calls_both

pub returns-clause-texts : goal.returns-clause-texts
returns-clause-texts c = texts_both

pub returns-clause-well : goal.returns-clause-well
returns-clause-well c = well_both
