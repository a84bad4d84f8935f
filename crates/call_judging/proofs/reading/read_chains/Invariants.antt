-- The chains read so far are right, and what isn't known of them has its cause.
use Rattle.std.proofs.Common.{◌≡◌, ◌≤◌, length, take}
use Rattle.std.specs.List.{list_any}
use Rattle.stir_outside.specs.Files.{CountsGoOn}
use Rattle.call_judging.specs.Causes.{HasCauseIf}
use Rattle.call_judging.specs.Chains.{AreRightWhere, is_unasked, is_unread}
use Rattle.call_judging.proofs.reading.read_chains.Given as goal

abbrev pub invariant-passports : goal.invariant-passports
invariant-passports g l = record {
  end : l.i-end ≡ length l.screened.readings;
  counted : length l.chains ≡ l.i;
  right : AreRightWhere (g.S.Shelf.files l.fn.shelf) l.world (g.P.Provider.says l.fn.provider) (take l.i l.screened.readings) l.chains;
  unread : HasCauseIf (list_any is_unread l.chains) (g.S.Shelf.counts l.fn.shelf).faults (g.S.Shelf.counts l.shelf).faults;
  unasked : HasCauseIf (list_any is_unasked l.chains) (g.P.Provider.faults l.fn.provider) (g.P.Provider.faults l.provider);
  same_files : g.S.Shelf.files l.shelf ≡ g.S.Shelf.files l.fn.shelf;
  counts : CountsGoOn (g.S.Shelf.counts l.fn.shelf) (g.S.Shelf.counts l.shelf);
  same_says : g.P.Provider.says l.provider ≡ g.P.Provider.says l.fn.provider;
  same_signs : g.P.Provider.signs l.provider ≡ g.P.Provider.signs l.fn.provider;
  faults : g.P.Provider.faults l.fn.provider ≤ g.P.Provider.faults l.provider;
}
