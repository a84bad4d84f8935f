use Rattle.replay_law.proofs.FirstLaws.{legal_is_first}
use Rattle.replay_law.proofs.legal_is_first.Goals as goal

pub returns : goal.returns
returns c = legal_is_first
