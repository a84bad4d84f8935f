-- What is kept of the call is how it was screened.
use Rattle.open_calls.proofs.CallLaws.{screened_in}
use Rattle.open_calls.proofs.call.OpenCall.screened.Goals as goal

pub returns-in-Ok : goal.returns-in-Ok
returns-in-Ok c = screened_in _ c.args.self.now c.self.inside.screened c.in-Ok.screened c.self.invariant c.in-Ok.is c.self.view_is
