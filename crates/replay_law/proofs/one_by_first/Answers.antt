use Rattle.replay_law.proofs.FirstLaws.{one_by_first}
use Rattle.replay_law.proofs.one_by_first.Goals as goal

pub returns : goal.returns
returns c = one_by_first
