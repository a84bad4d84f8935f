-- What the diversions left say is what all say.
use Rattle.std.proofs.Common.{◌≡◌, drop, length}
use Rattle.std.specs.List.{list_any}
use Rattle.retarget.specs.Onward.{is_at}
use Rattle.retarget.proofs.onward.is_dest.Given as goal

abbrev pub invariant-links : goal.invariant-links
invariant-links l = record {
  end : l.i-end ≡ length l.screened.readings;
  left : list_any (is_at l.number) (drop l.i l.screened.readings) ≡ list_any (is_at l.number) (drop 1 l.screened.readings);
}
