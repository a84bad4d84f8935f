-- The number that is found is the asserted one.
use Rattle.std.proofs.Common.{List, ◌∙◌, ap, map}
use Rattle.std.specs.List.{filter_map}
use Rattle.sip_message.specs.declared.field.Field.{Field}
use Rattle.sip_message.specs.Accessors.{asserted_number, first, number_in, values}
use Rattle.sip_message.specs.FieldNumber.{IsFirstNumber}
use Rattle.sip_message.specs.Message.{MessageView}
use Rattle.sip_message.specs.Names.{is_asserted}
use Rattle.sip_message.specs.Seen.{field_seen}
use Rattle.sip_message.proofs.FieldNumberLaws.{asserted_found, asserted_read, if_some}
use Rattle.sip_message.proofs.message.Message.asserted_number.Goals as goal

pub returns-clause-exact : goal.returns-clause-exact
returns-clause-exact c =
    c.first_number.ensures
    ∙ ap (λ (xs : List Field). first (filter_map (number_in c.args.local.now) (values is_asserted (map field_seen xs)))) c.deref.ensures.value
    ∙ ap (λ (m : MessageView). asserted_number m c.args.local.now) c.self.view_is

pub returns-clause-found : goal.returns-clause-found
returns-clause-found c =
    if_some (λ number. IsFirstNumber is_asserted c.args.self.now.fields c.args.local.now number) c.first_number.result
    (asserted_number c.args.self.now c.args.local.now) (returns-clause-exact c) (asserted_found c.args.self.now c.args.local.now)

pub returns-clause-only : goal.returns-clause-only
returns-clause-only c = λ number i. returns-clause-exact c ∙ asserted_read c.args.self.now c.args.local.now number i
