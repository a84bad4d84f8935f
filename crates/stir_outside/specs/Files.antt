-- What a shelf holds and counts.
use Rattle.std.specs.Prelude.{◌≡◌, ℕ, ◌+◌, ◌<◌, nat_lt, ⊤, List, [], ◌∷◌, map, length, slice_index, Option, Some, None}
use Rattle.std.specs.Prelude.{if◌then◌else◌}
use Rattle.std.specs.Str.{bytes_eq}
use Rattle.stir_outside.specs.Count.{GoesOn}

-- a finite map from names to contents, as a list of pairs of which the first of a name counts
abbrev pub Files : Type 0
Files = List (List ℕ × List ℕ)

-- a number as a byte: each from 0 to 255 is one, and a greater one counts as 255
abbrev pub as_byte : ℕ → ℕ
as_byte n = if nat_lt n 256 then n else 255

-- what a file holds are bytes, each number of its content one
unfoldable pub bytes_of : List ℕ → List ℕ
bytes_of content = map as_byte content

-- the content of the file of that name, if there is one
abbrev pub file : List ℕ → Files → Option (List ℕ)
file name [] = None
file name (entry ∷ others) = if bytes_eq name entry.0 then Some (bytes_of entry.1) else file name others

-- a fact about the file of that name, if the shelf tells its files
abbrev pub OfFile : Option Files → List ℕ → (Option (List ℕ) → Type 0) → Type 0
OfFile None name P = ⊤
OfFile (Some files) name P = P (file name files)

-- each of them is a byte
abbrev pub AreBytes : List ℕ → Type 0
AreBytes content = (i : ℕ) → slice_index content i < 256

-- each file holds bytes
abbrev pub HoldBytes : Files → Type 0
HoldBytes files = (name content : List ℕ) → file name files ≡ Some content → AreBytes content

-- the same, if the shelf tells its files
abbrev pub HoldBytesWhere : Option Files → Type 0
HoldBytesWhere None = ⊤
HoldBytesWhere (Some files) = HoldBytes files

-- the content is longer than the limit
abbrev pub IsLonger : ℕ → Option (List ℕ) → Type 0
IsLonger limit None = ⊥
IsLonger limit (Some content) = limit < length content

-- how often files were read, missing, too long, or failed
pub record Counts : Type 0 where
  pub reads : ℕ
  pub misses : ℕ
  pub longs : ℕ
  pub faults : ℕ

-- how often files were asked for, whatever came of it; a call that ran out of memory isn't counted
abbrev pub tries : Counts → ℕ
tries counts = counts.reads + counts.misses + counts.longs + counts.faults

-- no count fell, and none passed its last value
pub record CountsGoOn (before now : Counts) : Type 0 where
  pub reads : GoesOn before.reads now.reads
  pub misses : GoesOn before.misses now.misses
  pub longs : GoesOn before.longs now.longs
  pub faults : GoesOn before.faults now.faults
