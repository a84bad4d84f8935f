-- What is asked for a call, screened or refused.
use Rattle.std.proofs.Common.{Ok, Err, subst, string_bytes}
use Rattle.verify_rules.specs.Call.{call_of}
use Rattle.verify_rules.specs.Rules.{early_rules}
use Rattle.verify_rules.specs.Screened.{IsScreenedBy}
use Rattle.verify_rules.specs.declared.refusal.ScreenFault.{ScreenFault}
use Rattle.verify_rules.specs.declared.refusal.ScreenFault.TheVariants as faults
use Rattle.verify_service.specs.Judging.{call_in}
use Rattle.single_calls.specs.Reading.{lines}
use Rattle.single_calls.proofs.CallLaws.{writes_refused}
use Rattle.single_calls.proofs.asker.ask_call.Goals as goal

pub returns-in-Ok-clause-writes : goal.returns-in-Ok-clause-writes
returns-in-Ok-clause-writes g c = c.ask_screened.ensures.writes (call_in c.args.settings.now c.args.call.now)
    (c.call_law.ensures.screened c.args.settings.now c.args.call.now c.moment.result c.message.result.now (Ok c.in-Ok.screened) c.message.ensures c.moment.ensures c.in-Ok.ensures.exact)
    (c.call_law.ensures.same_moment c.args.settings.now c.args.call.now c.moment-in-Ok.result c.moment-in-Ok.ensures)

pub returns-in-Ok-clause-stopped : goal.returns-in-Ok-clause-stopped
returns-in-Ok-clause-stopped g c = c.ask_screened.ensures.stopped (call_in c.args.settings.now c.args.call.now)
    (c.call_law.ensures.screened c.args.settings.now c.args.call.now c.moment.result c.message.result.now (Ok c.in-Ok.screened) c.message.ensures c.moment.ensures c.in-Ok.ensures.exact)

pub returns-in-Refused-clause-writes : goal.returns-in-Refused-clause-writes
returns-in-Refused-clause-writes g c = writes_refused c.call_questions_law.ensures.refused (g.S.Shelf.files c.args.shelf.now) c.args.world.now (call_in c.args.settings.now c.args.call.now) c.in-Refused.field-0
    (lines c.args.written.now (string_bytes c.args.text.now))
    (c.call_law.ensures.screened c.args.settings.now c.args.call.now c.moment.result c.message.result.now (Err (faults.Refused c.in-Refused.field-0)) c.message.ensures c.moment.ensures
    (subst (λ (fault : ScreenFault). IsScreenedBy early_rules (call_of c.args.settings.now c.moment.result c.message.result.now) (Err fault)) c.in-Refused.is c.in-Err.ensures.exact))
