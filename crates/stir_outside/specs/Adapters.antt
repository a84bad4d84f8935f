-- What the adapters over real streams are seen as. The standard library's reader or writer below may tell its bytes;
-- that of a file or a stream of the system tells nothing.
use Rattle.std.specs.Prelude.{ℕ, List, Option}

-- the bytes left, if they are told, and how many reads failed and how many didn't
pub record ReaderState : Type 0 where
  pub left : Option (List ℕ)
  pub faults : ℕ
  pub reads : ℕ

-- the bytes written, if they are told, and the count of faults
pub record WriterState : Type 0 where
  pub written : Option (List ℕ)
  pub faults : ℕ
