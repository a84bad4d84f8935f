-- One more was asked for.
use Rattle.std.proofs.Common.{◌<◌, arith}
use Rattle.verify_rules.proofs.OnceLaws.{one_more}
use Rattle.verify_rules.proofs.once.Once.of.Goals as goal

pub states-preserved : goal.states-preserved
states-preserved g c =
    let below = c.states-test.true in
    let counted = c.count-count.ensures in
    let few = c.requires in
    let within : c.states.i < 9 = omega (arith, below, counted, few) in
    one_more (g.C.Chains.states c.args.chains.now) c.states.i c.states.states c.state.result within c.state.ensures c.states.invariant
