use Rattle.replay_law.proofs.LegalLaws.{legal_together}
use Rattle.replay_law.proofs.legal_together.Goals as goal

pub returns : goal.returns
returns c = legal_together
