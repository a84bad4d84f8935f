-- The fields of the message are those that were gone over, and what they give is its number.
use Rattle.std.proofs.Common.{List, ◌∙◌, ap, map}
use Rattle.sip_message.specs.declared.field.Field.{Field}
use Rattle.sip_message.specs.Accessors.{from_number, number_of}
use Rattle.sip_message.specs.FieldNumber.{IsNumberOf}
use Rattle.sip_message.specs.Message.{MessageView}
use Rattle.sip_message.specs.Names.{is_from}
use Rattle.sip_message.specs.Seen.{field_seen}
use Rattle.sip_message.proofs.FieldNumberLaws.{if_some, number_of_found, number_of_read}
use Rattle.sip_message.proofs.message.Message.from_number.Goals as goal

pub returns-clause-exact : goal.returns-clause-exact
returns-clause-exact c =
    c.number_of.ensures
    ∙ ap (λ (xs : List Field). number_of is_from (map field_seen xs) c.args.local.now) c.deref.ensures.value
    ∙ ap (λ (m : MessageView). from_number m c.args.local.now) c.self.view_is

pub returns-clause-found : goal.returns-clause-found
returns-clause-found c =
    if_some (λ number. IsNumberOf is_from c.args.self.now.fields c.args.local.now number) c.number_of.result (from_number c.args.self.now c.args.local.now)
    (returns-clause-exact c) (number_of_found is_from c.args.self.now.fields c.args.local.now)

pub returns-clause-only : goal.returns-clause-only
returns-clause-only c = λ number i. returns-clause-exact c ∙ number_of_read is_from c.args.self.now.fields c.args.local.now number i
