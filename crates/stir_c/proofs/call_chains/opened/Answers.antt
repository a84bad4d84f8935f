-- One chain more, and all of them.
use Rattle.std.specs.Arc.{arc_value}
use Rattle.std.specs.Option.{option_map}
use Rattle.stir_c.proofs.CallChainsLaws.{all_open, one_open}
use Rattle.stir_c.proofs.call_chains.opened.Goals as goal

pub passports-preserved : goal.passports-preserved
passports-preserved c =
    one_open (option_map arc_value) c.args.given.now c.passports.chain-index c.chain-item.result _ c.passports.chains _ _ c.passports.invariant c.passports-test.true
    c.chain-item.is c.in_ok-add.ensures

pub returns : goal.returns
returns c = all_open (option_map arc_value) c.args.given.now c.passports.chain-index c.passports.chains _ c.passports.invariant c.passports-test.false
