-- Which answer of a shelf is which, and what each does to its counts.
use Rattle.std.specs.Prelude.{Bool, true, false, Result, Ok, Err}
use Rattle.stir_outside.specs.Count.{one_more}
use Rattle.stir_outside.specs.Files.{Counts}
use Rattle.stir_outside.specs.declared.shelf.ShelfFault.{ShelfFault}
use Rattle.stir_outside.specs.declared.shelf.ShelfFault.TheVariants.{Missing, Long, Failed, Memory}

-- the read failed: the file is neither given nor known to be missing or too long
abbrev pub is_failed : {T : Type 0} → Result T ShelfFault → Bool
is_failed (Ok content) = false
is_failed (Err Missing) = false
is_failed (Err Long) = false
is_failed (Err Failed) = true
is_failed (Err Memory) = false

-- the counts after an answer: that of its kind is one more, and the others are as they were
abbrev pub counted : {T : Type 0} → Counts → Result T ShelfFault → Counts
counted counts (Ok content) = record counts { reads = one_more counts.reads }
counted counts (Err Missing) = record counts { misses = one_more counts.misses }
counted counts (Err Long) = record counts { longs = one_more counts.longs }
counted counts (Err Failed) = record counts { faults = one_more counts.faults }
counted counts (Err Memory) = counts
