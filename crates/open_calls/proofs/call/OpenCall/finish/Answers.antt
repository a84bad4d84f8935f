-- There is one chain for each PASSporT of a screened call.
use Rattle.open_calls.proofs.CallLaws.{one_each, screened_in}
use Rattle.open_calls.proofs.call.OpenCall.finish.Goals as goal

pub finish_with-requires-clause-one_each : goal.finish_with-requires-clause-one_each
finish_with-requires-clause-one_each g c =
    one_each c.args.self.now c.in-Ok.screened c.args.chains.now (screened_in _ c.args.self.now c.self.inside.screened c.in-Ok.screened c.self.invariant c.in-Ok.is c.self.view_is) c.requires.one_each
