-- What the PASSporTs left break is what all break.
use Rattle.std.proofs.Common.{◌≡◌, drop, length}
use Rattle.verify_rules.specs.Rules.{each, stale}
use Rattle.verify_rules.proofs.screened.stale.Given as goal

abbrev pub invariant-readings : goal.invariant-readings
invariant-readings l = record {
  end : l.i-end ≡ length l.screened.readings;
  left : each (stale l.settings l.moment) (drop l.i l.screened.readings) ≡ each (stale l.settings l.moment) l.screened.readings;
}
