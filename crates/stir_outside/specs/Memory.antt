-- What the memory forms of a shelf, a source and a sink are seen as.
use Rattle.std.specs.Prelude.{ℕ, ◌==◌, Bool, List}
use Rattle.std.specs.List.{list_any}
use Rattle.stir_outside.specs.Count.{one_more}
use Rattle.stir_outside.specs.Files.{Files, Counts}

-- the next call, counted from 1, is one of those that are to fail
abbrev pub is_failing : ℕ → List ℕ → Bool
is_failing calls failing = list_any (λ call. call == one_more calls) failing

-- the bytes left, the calls made, the calls that are to fail, and how many failed and how many didn't
pub record SourceState : Type 0 where
  pub left : List ℕ
  pub calls : ℕ
  pub failing : List ℕ
  pub faults : ℕ
  pub reads : ℕ

-- the bytes left, and the count of reads
pub record SlowState : Type 0 where
  pub left : List ℕ
  pub reads : ℕ

-- the bytes written, the room for more, the calls made, the calls that are to fail, and the count of faults
pub record SinkState : Type 0 where
  pub written : List ℕ
  pub room : ℕ
  pub calls : ℕ
  pub failing : List ℕ
  pub faults : ℕ

-- the files, the calls made, the calls that are to fail, and the counts
pub record ShelfState : Type 0 where
  pub files : Files
  pub calls : ℕ
  pub failing : List ℕ
  pub counts : Counts
