-- What the PASSporTs left break is what all break.
use Rattle.std.proofs.Common.{◌≡◌, drop, length}
use Rattle.verify_rules.specs.Rules.{each, other_calling}
use Rattle.verify_rules.proofs.turns.other_calling.Given as goal

abbrev pub invariant-readings : goal.invariant-readings
invariant-readings l = record {
  end : l.i-end ≡ length l.readings;
  left : each (other_calling l.facts.calling) (drop l.i l.readings) ≡ each (other_calling l.facts.calling) l.readings;
}
