-- The PASSporTs that are judged are those of the screened call.
use Rattle.std.proofs.Common.{◌∙◌, ap, length, sym}
use Rattle.open_calls.proofs.CallLaws.{judged_screened, screened_in}
use Rattle.open_calls.proofs.call.OpenCall.count.Goals as goal

pub returns-in-Ok-clause-exact : goal.returns-in-Ok-clause-exact
returns-in-Ok-clause-exact c =
    c.count.ensures.count
    ∙ sym (ap length (judged_screened c.args.self.now c.in-Ok.screened (screened_in _ c.args.self.now c.self.inside.screened c.in-Ok.screened c.self.invariant c.in-Ok.is c.self.view_is)))
