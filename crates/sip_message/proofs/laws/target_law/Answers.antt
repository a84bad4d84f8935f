use Rattle.sip_message.proofs.TargetLaws.{target_law}
use Rattle.sip_message.proofs.laws.target_law.Goals as goal

pub returns : goal.returns
returns c = target_law
