use Rattle.replay_law.proofs.OneLaws.{one_answer}
use Rattle.replay_law.proofs.one_answer.Goals as goal

pub returns : goal.returns
returns c = one_answer
