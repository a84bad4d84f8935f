use Rattle.replay_law.proofs.Joining.{purged_alone}
use Rattle.replay_law.proofs.purged_alone.Goals as goal

pub returns : goal.returns
returns c = purged_alone
