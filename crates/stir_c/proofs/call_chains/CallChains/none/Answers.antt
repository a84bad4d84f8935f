-- None is seen.
use Rattle.std.specs.Arc.{arc_value}
use Rattle.stir_c.proofs.CallChainsLaws.{none_given}
use Rattle.stir_c.proofs.call_chains.CallChains.none.Goals as goal

pub returns : goal.returns
returns c = none_given arc_value c.in_ok-chains.chains.items c.args.count c.in_ok-chains.ensures
