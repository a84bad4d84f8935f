-- The fields that are gone over are those of the message, and what they give is the value of such a field.
use Rattle.std.proofs.Common.{◌≤◌, List, length, map, ap, sym, ◌∙◌}
use Rattle.std.specs.List.{slice_get}
use Rattle.sip_message.specs.declared.field.Field.{Field}
use Rattle.sip_message.specs.FieldValue.{IsFieldValue, field_value, values_named}
use Rattle.sip_message.specs.Message.{MessageView}
use Rattle.sip_message.specs.Seen.{field_seen}
use Rattle.sip_message.proofs.FieldValueLaws.{if_copied, value_found, value_read, value_short}
use Rattle.sip_message.proofs.message.Message.field_value.Goals as goal

pub returns-clause-exact : goal.returns-clause-exact
returns-clause-exact c =
    c.value_named.ensures
    ∙ ap (λ (xs : List Field). slice_get (values_named c.args.name.now (map field_seen xs)) c.args.i) c.deref.ensures.value
    ∙ ap (λ (m : MessageView). field_value m c.args.name.now c.args.i) c.self.view_is

pub returns-clause-found : goal.returns-clause-found
returns-clause-found c =
    if_copied (IsFieldValue c.args.name.now c.args.self.now.fields c.args.i) c.value_named.result (field_value c.args.self.now c.args.name.now c.args.i)
    (returns-clause-exact c) (value_found c.args.name.now c.args.self.now.fields c.args.i)

pub returns-clause-only : goal.returns-clause-only
returns-clause-only c = λ value v. returns-clause-exact c ∙ value_read c.args.name.now c.args.self.now.fields c.args.i value v

pub returns-clause-short : goal.returns-clause-short
returns-clause-short c =
    if_copied (λ value. length value ≤ 65535) c.value_named.result (field_value c.args.self.now c.args.name.now c.args.i) (returns-clause-exact c)
    (λ value e. value_short c.args.name.now c.args.self.now.fields c.args.i value (rw (sym c.self.view_is) c.self.invariant) e)
