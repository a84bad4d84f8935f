-- A head with one From and one To is a message.
use Rattle.std.proofs.Common.{refl, sym}
use Rattle.sip_message.proofs.HeadSteps.{accepted}
use Rattle.sip_message.specs.Seen.{head_seen}
use Rattle.sip_message.proofs.message.checked.Goals as goal

pub returns-clause-exact : goal.returns-clause-exact
returns-clause-exact c = accepted (c.args.method.now, c.args.uri.now) c.args.head.fields.items c.args.head.end (head_seen c.args.head) refl (sym c.in_default.ensures) (sym c.in_default-surplus.ensures)
