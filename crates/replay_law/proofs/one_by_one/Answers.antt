use Rattle.replay_law.proofs.TurnLaws.{one_by_one}
use Rattle.replay_law.proofs.one_by_one.Goals as goal

pub returns : goal.returns
returns c = one_by_one
