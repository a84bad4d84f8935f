use Rattle.replay_law.proofs.TurnLaws.{same_is_one}
use Rattle.replay_law.proofs.same_is_one.Goals as goal

pub returns : goal.returns
returns c = same_is_one
