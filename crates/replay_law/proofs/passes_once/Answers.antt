use Rattle.replay_law.proofs.LogLaws.{passes_once}
use Rattle.replay_law.proofs.passes_once.Goals as goal

pub returns : goal.returns
returns c = passes_once
