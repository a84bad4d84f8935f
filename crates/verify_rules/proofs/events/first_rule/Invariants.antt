-- What the rules left make of the PASSporTs is what all make of them.
use Rattle.std.proofs.Common.{◌≡◌, drop}
use Rattle.verify_rules.specs.Late.{first_rule}
use Rattle.verify_rules.proofs.events.first_rule.Given as goal

abbrev pub invariant-loop-rule : goal.invariant-loop-rule
invariant-loop-rule g l =
    first_rule (drop l.rule-index l.rules) l.table l.moment l.screened.readings (g.C.Chains.states l.chains)
    ≡ first_rule l.rules l.table l.moment l.screened.readings (g.C.Chains.states l.chains)
