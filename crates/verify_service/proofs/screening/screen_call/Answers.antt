-- What the rules of the call say of the message at its moment, they say of the call.
use Rattle.std.proofs.Common.{Ok, Err, subst}
use Rattle.verify_rules.specs.Call.{call_of}
use Rattle.verify_rules.specs.Rules.{early_rules}
use Rattle.verify_rules.specs.Screened.{IsScreenedBy}
use Rattle.verify_rules.specs.declared.refusal.ScreenFault.{ScreenFault}
use Rattle.verify_rules.specs.declared.refusal.ScreenFault.TheVariants as faults
use Rattle.verify_service.proofs.LastLaws.{by_readings}
use Rattle.verify_service.proofs.screening.screen_call.Goals as goal

pub last_law-requires : goal.last_law-requires
last_law-requires c = by_readings c.args.settings.now _ c.in-Ok.screened c.in-Ok.ensures.exact.1

pub returns-in-Ok-clause-screening : goal.returns-in-Ok-clause-screening
returns-in-Ok-clause-screening c =
    c.call_law.ensures.screened c.args.settings.now c.args.call.now c.moment.result c.message.result.now (Ok c.in-Ok.screened) c.message.ensures c.moment.ensures c.in-Ok.ensures.exact

pub returns-in-Refused-clause-screening : goal.returns-in-Refused-clause-screening
returns-in-Refused-clause-screening c =
    c.call_law.ensures.screened c.args.settings.now c.args.call.now c.moment.result c.message.result.now (Err (faults.Refused c.in-Refused.refusal)) c.message.ensures c.moment.ensures
    (subst (λ (fault : ScreenFault). IsScreenedBy early_rules (call_of c.args.settings.now c.moment.result c.message.result.now) (Err fault)) c.in-Refused.is c.in-Err.ensures.exact)
