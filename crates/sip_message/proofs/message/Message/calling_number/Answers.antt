-- The number that is found is the calling one.
use Rattle.std.proofs.Common.{◌∙◌}
use Rattle.sip_message.specs.Accessors.{calling_number}
use Rattle.sip_message.specs.FieldNumber.{IsCalling}
use Rattle.sip_message.proofs.FieldNumberLaws.{calling_found, calling_read, if_some}
use Rattle.sip_message.proofs.message.Message.calling_number.Goals as goal

pub returns-clause-found : goal.returns-clause-found
returns-clause-found c =
    if_some (IsCalling c.args.self.now c.args.local.now) c.calling_number_exactly.result (calling_number c.args.self.now c.args.local.now)
    c.calling_number_exactly.ensures (calling_found c.args.self.now c.args.local.now)

pub returns-clause-only : goal.returns-clause-only
returns-clause-only c = λ number i. c.calling_number_exactly.ensures ∙ calling_read c.args.self.now c.args.local.now number i
