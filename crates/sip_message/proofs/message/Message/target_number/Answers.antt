-- The number that is read of the URI is the one that it gives.
use Rattle.std.proofs.Common.{◌∙◌, rules}
use Rattle.sip_message.specs.Accessors.{target_number}
use Rattle.sip_message.specs.UriNumber.{GivesNumber}
use Rattle.sip_message.proofs.FieldNumberLaws.{if_some}
use Rattle.sip_message.proofs.UriLaws.{number_found, number_read}
use Rattle.sip_message.proofs.message.Message.target_number.Goals as goal

pub returns-clause-exact : goal.returns-clause-exact
returns-clause-exact c = search rules

pub returns-clause-found : goal.returns-clause-found
returns-clause-found c =
    if_some (GivesNumber c.args.self.now.uri c.args.local.now) c.uri_number.result (target_number c.args.self.now c.args.local.now)
    (returns-clause-exact c) (number_found c.args.self.now.uri c.args.local.now)

pub returns-clause-only : goal.returns-clause-only
returns-clause-only c = λ number i. returns-clause-exact c ∙ number_read c.args.self.now.uri c.args.local.now number i
