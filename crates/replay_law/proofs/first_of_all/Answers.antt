use Rattle.replay_law.proofs.LogLaws.{first_of_all}
use Rattle.replay_law.proofs.first_of_all.Goals as goal

pub returns : goal.returns
returns c = first_of_all
