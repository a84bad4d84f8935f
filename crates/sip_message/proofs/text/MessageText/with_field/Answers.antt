-- What is added comes before the empty line, and is read as the last field.
use Rattle.sip_message.proofs.AddedLaws.{answers_added, answers_placed, answers_read}
use Rattle.sip_message.proofs.text.MessageText.with_field.Goals as goal

pub returns-clause-placed : goal.returns-clause-placed
returns-clause-placed c =
    answers_placed (λ out. out.items) c.args.self.now.bytes c.args.name.now c.args.value.now c.with_field_exactly.result c.requires.name c.requires.value
    c.with_field_exactly.ensures.exact

pub returns-clause-head : goal.returns-clause-head
returns-clause-head c =
    answers_added (λ out. out.items) c.args.self.now.bytes c.args.name.now c.args.value.now c.with_field_exactly.result c.requires.name c.requires.value
    c.with_field_exactly.ensures.exact

pub returns-clause-read_again : goal.returns-clause-read_again
returns-clause-read_again c =
    answers_read (λ out. out.items) c.args.self.now.bytes c.args.name.now c.args.value.now c.with_field_exactly.result c.requires.name c.requires.value
    c.with_field_exactly.ensures.exact c.args.self.now.message c.with_field_exactly.ensures.read
