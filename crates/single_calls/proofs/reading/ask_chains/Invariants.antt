-- The chains read so far are right, and their questions were written.
use Rattle.std.proofs.Common.{◌≡◌, length, string_bytes}
use Rattle.stir_outside.specs.Files.{CountsGoOn}
use Rattle.single_calls.specs.Reading.{AreAsked, lines}
use Rattle.single_calls.proofs.reading.ask_chains.Given as goal

abbrev pub invariant-passports : goal.invariant-passports
invariant-passports g l = record {
  end : l.i-end ≡ length l.screened.readings;
  counted : length l.chains ≡ l.i;
  asked : AreAsked (g.S.Shelf.files l.fn.shelf) l.world l.screened.readings (lines l.fn.written (string_bytes l.fn.text)) (lines l.written (string_bytes l.text)) l.chains;
  same_files : g.S.Shelf.files l.shelf ≡ g.S.Shelf.files l.fn.shelf;
  counts : CountsGoOn (g.S.Shelf.counts l.fn.shelf) (g.S.Shelf.counts l.shelf);
}
