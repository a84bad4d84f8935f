use Rattle.replay_law.proofs.FirstLaws.{first_is_legal}
use Rattle.replay_law.proofs.first_is_legal.Goals as goal

pub returns : goal.returns
returns c = first_is_legal
