use Rattle.replay_law.proofs.Joining.{one_round_more}
use Rattle.replay_law.proofs.one_round_more.Goals as goal

pub returns : goal.returns
returns c = one_round_more
