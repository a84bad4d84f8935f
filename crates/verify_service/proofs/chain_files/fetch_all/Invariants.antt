-- The files that were read so far.
use Rattle.std.proofs.Common.{◌≡◌, ◌≤◌, ◌+◌, length, filter, take, vec_len}
use Rattle.stir_outside.specs.Files.{CountsGoOn, tries}
use Rattle.verify_service.specs.Causes.{AreCounted}
use Rattle.call_judging.specs.Fetched.{IsContent, IsFetched, bytes_in, is_read_file, is_unread_file}
use Rattle.verify_service.specs.Judging.{EachPair}
use Rattle.verify_service.proofs.chain_files.fetch_all.Given as goal

abbrev pub invariant-texts : goal.invariant-texts
invariant-texts g l = record {
  end : l.index-end ≡ length l.texts;
  counted : vec_len l.files ≡ l.index;
  fetched : EachPair (IsFetched (g.S.Shelf.files l.fn.shelf) l.world) (take l.index l.texts) l.files.items;
  contents : EachPair (λ x5u file. IsContent (g.S.Shelf.files l.fn.shelf) l.world x5u (bytes_in file)) (take l.index l.texts) l.files.items;
  rose : AreCounted is_read_file l.files.items (g.S.Shelf.counts l.fn.shelf).reads (g.S.Shelf.counts l.shelf).reads;
  unread : AreCounted is_unread_file l.files.items (g.S.Shelf.counts l.fn.shelf).faults (g.S.Shelf.counts l.shelf).faults;
  read : (g.S.Shelf.counts l.shelf).reads ≤ (g.S.Shelf.counts l.fn.shelf).reads + length (filter is_read_file l.files.items);
  reads : (g.S.Shelf.counts l.shelf).reads ≤ (g.S.Shelf.counts l.fn.shelf).reads + l.index;
  tries : tries (g.S.Shelf.counts l.shelf) ≤ tries (g.S.Shelf.counts l.fn.shelf) + l.index;
  same_files : g.S.Shelf.files l.shelf ≡ g.S.Shelf.files l.fn.shelf;
  counts : CountsGoOn (g.S.Shelf.counts l.fn.shelf) (g.S.Shelf.counts l.shelf);
}
