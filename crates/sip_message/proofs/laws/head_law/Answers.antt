-- What is read is a message, and a message is read.
use Rattle.sip_message.proofs.FormLaws.{read_found}
use Rattle.sip_message.proofs.HeadLaws.{head_read}
use Rattle.sip_message.proofs.laws.head_law.Goals as goal

pub returns : goal.returns
returns c = λ bytes message. (read_found bytes message, head_read bytes message)
