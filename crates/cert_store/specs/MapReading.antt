-- How far a chain map was read.
use Rattle.std.specs.Prelude.{◌≡◌, ℕ, Bool, List, Ok}
use Rattle.lists.specs.Given.{IsFaultOf}
use Rattle.text_grammar.specs.Rows as file
use Rattle.cert_store.specs.ChainMap.{Row, add_row, file_in, first_rows, is_repeated, line_of, listed, up_to_limit}
use Rattle.cert_store.specs.Files.{Files}
use Rattle.cert_store.specs.declared.map.MapFault.{MapFault}

-- each x5u has the file that the rows read so far say
pub record HoldsRows (rows : List Row) (held : Files) : Type 0 where
  pub files : (x5u : List ℕ) → listed held x5u ≡ file_in rows x5u

-- a row was added, or its x5u is listed already
abbrev pub Adds : Files → Files → Row → Bool → Type 0
Adds = file.Adds is_repeated HoldsRows

-- a line was added, or it is bad
abbrev pub AddsLine : Files → Files → List ℕ → Bool → Type 0
AddsLine = file.AddsLine add_row HoldsRows

-- the rows read so far are held, and the lines that are left lead on from them to what the first lines of the text give
abbrev pub Reached : List ℕ → List (ℕ × List ℕ) → Files → Type 0
Reached text lines held = file.Reached add_row HoldsRows (first_rows text) (up_to_limit lines) held

-- the first lines of the text are read, and their rows are held
pub record FirstRead (text : List ℕ) (held : Files) : Type 0 where
  pub rows : List Row
  pub read : first_rows text ≡ Ok rows
  pub holds : HoldsRows rows held

-- the fault names the first bad one of the first lines
abbrev pub FirstFault : List ℕ → MapFault → Type 0
FirstFault text fault = IsFaultOf (line_of fault) (first_rows text)
