-- The fields that are looked through are those of the message, and what the first of them shows is its time.
use Rattle.std.proofs.Common.{ap, ◌∙◌, map}
use Rattle.sip_message.specs.Accessors.{date, time_of}
use Rattle.sip_message.specs.FieldDate.{IsTimeOf}
use Rattle.sip_message.specs.Names.{is_date}
use Rattle.sip_message.specs.Seen.{field_seen}
use Rattle.sip_message.proofs.DateLaws.{time_found, time_read}
use Rattle.sip_message.proofs.FieldNumberLaws.{if_some}
use Rattle.sip_message.proofs.message.Message.date.Goals as goal

pub returns-clause-exact : goal.returns-clause-exact
returns-clause-exact c =
    c.time_of.ensures ∙ ap (λ fields. time_of is_date (map field_seen fields)) c.deref.ensures.value ∙ ap date c.self.view_is

pub returns-clause-found : goal.returns-clause-found
returns-clause-found c =
    if_some (λ second. IsTimeOf is_date c.args.self.now.fields second) c.time_of.result (date c.args.self.now) (returns-clause-exact c)
    (time_found is_date c.args.self.now.fields)

pub returns-clause-only : goal.returns-clause-only
returns-clause-only c = λ second i. returns-clause-exact c ∙ time_read is_date c.args.self.now.fields second i
