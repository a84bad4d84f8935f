-- The numbers that a call is judged by, given that its bytes are read exactly if they are the head of a message.
use Rattle.verify_rules.proofs.NumberLaws.{called_in, calling_in}
use Rattle.verify_rules.proofs.laws.numbers_law.Goals as goal
use Rattle.sip_message.specs.Reading.{read}

pub returns-clause-calling : goal.returns-clause-calling
returns-clause-calling c = λ settings moment bytes message head. calling_in settings.local (read bytes) message ((c.head_law.ensures bytes message).1 head)

pub returns-clause-called : goal.returns-clause-called
returns-clause-called c = λ settings moment bytes message head. called_in settings.local (read bytes) message ((c.head_law.ensures bytes message).1 head)
