use Rattle.log_rounds.proofs.OutputLaws.{output_is_state}
use Rattle.log_rounds.proofs.laws.output_law.Goals as goal

pub returns : goal.returns
returns c = output_is_state
