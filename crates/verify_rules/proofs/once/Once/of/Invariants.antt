-- What was asked for so far is what is known.
use Rattle.verify_rules.proofs.OnceLaws.{Asked}
use Rattle.verify_rules.proofs.once.Once.of.Given as goal

abbrev pub invariant-states : goal.invariant-states
invariant-states g l = Asked (g.C.Chains.states l.chains) l.i l.states
