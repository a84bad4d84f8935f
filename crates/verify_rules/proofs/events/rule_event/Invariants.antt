-- What the rule makes of the PASSporTs left is what it makes of all.
use Rattle.std.proofs.Common.{◌≡◌, drop, length}
use Rattle.verify_rules.specs.Late.{rule_event}
use Rattle.verify_rules.proofs.events.rule_event.Given as goal

abbrev pub invariant-passports : goal.invariant-passports
invariant-passports g l = record {
  end : l.i-end ≡ length l.screened.readings;
  left : rule_event l.rule l.table l.moment (drop l.i l.screened.readings) (drop l.i (g.C.Chains.states l.chains))
      ≡ rule_event l.rule l.table l.moment l.screened.readings (g.C.Chains.states l.chains);
}
