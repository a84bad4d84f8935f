use Rattle.stir_drill.proofs.SentenceLaws.{says_call}
use Rattle.stir_drill.proofs.laws.call_law.Goals as goal

pub returns : goal.returns
returns c = says_call
