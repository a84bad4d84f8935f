use Rattle.replay_law.proofs.Joining.{more_rounds}
use Rattle.replay_law.proofs.more_rounds.Goals as goal

pub returns : goal.returns
returns c = more_rounds
