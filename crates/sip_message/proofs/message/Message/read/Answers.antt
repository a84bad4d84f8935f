-- If the bytes are a message, it is the answer; if they have a fault, that is.
use Rattle.sip_message.proofs.AnswerLaws.{answers_only, answers_only_fault}
use Rattle.sip_message.proofs.message.Message.read.Goals as goal

pub returns-clause-only : goal.returns-clause-only
returns-clause-only c = λ message head. answers_only c.args.bytes.now c.read_message.result message c.read_message.ensures head

pub returns-clause-only_fault : goal.returns-clause-only_fault
returns-clause-only_fault c = λ fault f. answers_only_fault c.args.bytes.now c.read_message.result fault c.read_message.ensures f
