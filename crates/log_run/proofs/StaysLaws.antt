-- A shelf stays over no call, and over one call after another.
use Rattle.std.proofs.Common.{ℕ, refl, ◌∙◌, arith}
use Rattle.stir_outside.proofs.CountLaws.{go_on}
use Rattle.stir_outside.specs.Count.{GoesOn}
use Rattle.stir_outside.specs.Stays.{ShelfStays}
use Rattle.stir_outside.specs.declared.shelf.Shelf.{Ghosts as ShelfOf}

stands : (count : ℕ) → GoesOn count count
stands count = record { never_falls = omega arith; within = omega arith }

pub shelf_stands : {S : Type 0} (shelf : ShelfOf S) (now : S) → ShelfStays shelf now now
shelf_stands shelf now = record {
  files = refl;
  counts = record {
    reads = stands (shelf.counts now).reads;
    misses = stands (shelf.counts now).misses;
    longs = stands (shelf.counts now).longs;
    faults = stands (shelf.counts now).faults;
  };
}

pub shelf_stays_on : {S : Type 0} (shelf : ShelfOf S) (before mid now : S) → ShelfStays shelf before mid → ShelfStays shelf mid now → ShelfStays shelf before now
shelf_stays_on shelf before mid now one other = record {
  files = other.files ∙ one.files;
  counts = go_on (shelf.counts before) (shelf.counts mid) (shelf.counts now) one.counts other.counts;
}
