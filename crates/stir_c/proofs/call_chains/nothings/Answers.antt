-- All are there.
use Rattle.std.proofs.Common.{None}
use Rattle.stir_c.proofs.CallChainsLaws.{all_nothings}
use Rattle.stir_c.proofs.call_chains.nothings.Goals as goal

pub returns : goal.returns
returns c = all_nothings c.passports.chains.items None c.passports._at c.args.count c.passports.invariant c.passports-test.false
