-- What is around the program: the shelf of named files, the input and the output.
use Rattle.std.specs.Prelude.{◌≡◌, ⊤, ℕ, List, Option, Some, None}
use Rattle.stir_outside.specs.Files.{Counts, Files}
use Rattle.stir_outside.specs.declared.shelf.Shelf.{Ghosts as ShelfOf}
use Rattle.stir_outside.specs.declared.sink.Sink.{Ghosts as SinkOf}
use Rattle.stir_outside.specs.declared.source.Source.{Ghosts as SourceOf}

-- the files if the shelf tells them, and its counts; what is left of the input if it is told, and how often reads of it
-- failed; what was written if that is told, and how often writes failed
pub record Outside : Type 0 where
  pub files : Option Files
  pub counts : Counts
  pub left : Option (List ℕ)
  pub read_faults : ℕ
  pub written : Option (List ℕ)
  pub write_faults : ℕ

abbrev pub outside : Option Files → Counts → Option (List ℕ) → ℕ → Option (List ℕ) → ℕ → Outside
outside files counts left reads written writes = record {
  files = files;
  counts = counts;
  left = left;
  read_faults = reads;
  written = written;
  write_faults = writes;
}

-- of a shelf, a source and a sink
abbrev pub outside_of : {S I O : Type 0} → ShelfOf S → SourceOf I → SinkOf O → S → I → O → Outside
outside_of files bytes lines shelf input sink = outside (files.files shelf) (files.counts shelf) (bytes.left input)
    (bytes.faults input) (lines.written sink) (lines.faults sink)

-- of these the input and the output
pub record Io : Type 0 where
  pub left : Option (List ℕ)
  pub read_faults : ℕ
  pub written : Option (List ℕ)
  pub write_faults : ℕ

abbrev pub io : Option (List ℕ) → ℕ → Option (List ℕ) → ℕ → Io
io left reads written writes = record { left = left; read_faults = reads; written = written; write_faults = writes }

abbrev pub io_in : Outside → Io
io_in stands = io stands.left stands.read_faults stands.written stands.write_faults

-- of a source and a sink
abbrev pub io_of : {I O : Type 0} → SourceOf I → SinkOf O → I → O → Io
io_of bytes lines input sink = io (bytes.left input) (bytes.faults input) (lines.written sink) (lines.faults sink)

-- it holds of the files and of the bytes that were left, if both are told
abbrev pub IfTold : Option Files → Option (List ℕ) → (Files → List ℕ → Type 0) → Type 0
IfTold None left P = ⊤
IfTold (Some files) None P = ⊤
IfTold (Some files) (Some bytes) P = P files bytes

-- neither the files nor the input was touched
pub record IsUntouched (before now : Outside) : Type 0 where
  pub counts : now.counts ≡ before.counts
  pub left : now.left ≡ before.left
  pub read_faults : now.read_faults ≡ before.read_faults
