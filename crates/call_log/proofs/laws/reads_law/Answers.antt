-- How often a source is asked.
use Rattle.call_log.proofs.SupplyLaws.{few_reads}
use Rattle.call_log.proofs.laws.reads_law.Goals as goal

pub returns : goal.returns
returns c = record { few = few_reads }
