use Rattle.replay_law.proofs.Joining.{one_turn_more}
use Rattle.replay_law.proofs.one_turn_more.Goals as goal

pub returns : goal.returns
returns c = one_turn_more
