use Rattle.log_rounds.proofs.RunsLaws.{runs_legal}
use Rattle.log_rounds.proofs.laws.runs_law.Goals as goal

pub returns : goal.returns
returns c = runs_legal c.legal_in_runs.ensures
