use Rattle.stir_drill.proofs.LogLaws.{are_short, is_whole}
use Rattle.stir_drill.proofs.laws.log_law.Goals as goal

pub returns-clause-whole : goal.returns-clause-whole
returns-clause-whole c = is_whole

pub returns-clause-short : goal.returns-clause-short
returns-clause-short c = are_short
