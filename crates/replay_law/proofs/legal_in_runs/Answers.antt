use Rattle.replay_law.proofs.RunLaws.{legal_in_runs}
use Rattle.replay_law.proofs.legal_in_runs.Goals as goal

pub returns : goal.returns
returns c = legal_in_runs
