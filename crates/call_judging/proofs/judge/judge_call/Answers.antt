-- What is found of a call, refused by the screening or judged on.
use Rattle.std.proofs.Common.{Err, refl, subst}
use Rattle.verify_rules.specs.Call.{call_of}
use Rattle.verify_rules.specs.Rules.{early_rules}
use Rattle.verify_rules.specs.Screened.{IsScreenedBy}
use Rattle.verify_rules.specs.declared.refusal.ScreenFault.{ScreenFault}
use Rattle.call_judging.proofs.JudgeLaws.{refused_where}
use Rattle.call_judging.proofs.judge.judge_call.Goals as goal

pub returns-in-Ok-clause-ticket : goal.returns-in-Ok-clause-ticket
returns-in-Ok-clause-ticket g c = c.judge_screened.ensures.ticket (call_of c.args.settings.now c.args.moment c.args.message.now) c.in-Ok.ensures.exact

pub returns-in-Ok-clause-signed : goal.returns-in-Ok-clause-signed
returns-in-Ok-clause-signed g c = c.judge_screened.ensures.signed (call_of c.args.settings.now c.args.moment c.args.message.now) c.in-Ok.ensures.exact

pub returns-in-Ok-clause-found : goal.returns-in-Ok-clause-found
returns-in-Ok-clause-found g c = c.judge_screened.ensures.found (call_of c.args.settings.now c.args.moment c.args.message.now) c.in-Ok.ensures.exact refl

pub returns-in-Refused-clause-found : goal.returns-in-Refused-clause-found
returns-in-Refused-clause-found g c =
    let call = call_of c.args.settings.now c.args.moment c.args.message.now in
    refused_where (g.S.Shelf.files c.args.shelf.now) c.args.world.now (g.P.Provider.says c.args.provider.now) call c.in-Refused.refusal c.screened_law.ensures.refused
    (subst (λ (fault : ScreenFault). IsScreenedBy early_rules call (Err fault)) c.in-Refused.is c.in-Err.ensures.exact)
