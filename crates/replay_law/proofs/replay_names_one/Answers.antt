use Rattle.replay_law.proofs.LogLaws.{replay_names_one}
use Rattle.replay_law.proofs.replay_names_one.Goals as goal

pub returns : goal.returns
returns c = replay_names_one
