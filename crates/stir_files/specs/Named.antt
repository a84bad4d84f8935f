-- Named files: each has a limit and a grammar (this project's own rule).
use Rattle.std.specs.Prelude.{◌≡◌, ℕ, ◌≤◌, ◌⊎◌, nat_lt, List, [], ◌∷◌, length, Option, Some, None, Result, Ok, Err}
use Rattle.std.specs.Prelude.{if◌then◌else◌}
use Rattle.std.specs.Option.{option_map, option_or}
use Rattle.stir_outside.specs.Count.{Rose}
use Rattle.stir_outside.specs.AnswersText.{answer_rows}
use Rattle.stir_outside.specs.Files.{Counts, Files, IsLonger, OfFile, file}
use Rattle.x509_profile.specs.View.{CertView}
use Rattle.tn_auth_list.specs.CodeTable.{table_rows}
use Rattle.delegation.specs.Anchors.{AnchorText, anchors_in}
use Rattle.cert_store.specs.ChainMap.{map_rows}
use Rattle.stir_files.specs.declared.fault.FileFault.{FileFault}
use Rattle.stir_files.specs.declared.fault.FileFault.TheVariants.{Missing, Long, Failed, Refused, NoList, Memory}

-- a named file: its name, the most bytes that it may have, and why a content of no more is refused, if it is
pub record NamedFile : Type 0 where
  pub name : List ℕ
  pub limit : ℕ
  pub refused : List ℕ → Option FileFault

-- a content is outside its grammar at the place at which its reading ends
abbrev pub refusal_of : {X : Type 0} → Result X ℕ → Option FileFault
refusal_of (Ok x) = None
refusal_of (Err place) = Some (Refused place)

-- a chain map; the place is the first bad line
abbrev pub chain_map : List ℕ → NamedFile
chain_map name = record { name = name; limit = 16777216; refused = λ content. refusal_of (map_rows content) }

-- trust anchors; the place is the offset of the first certificate that is none
abbrev pub anchor_file : List ℕ → NamedFile
anchor_file name = record { name = name; limit = 2097152; refused = λ content. refusal_of (anchors_in content) }

-- a code table; the place is the first bad line
abbrev pub code_table : List ℕ → NamedFile
code_table name = record { name = name; limit = 16777216; refused = λ content. refusal_of (table_rows content) }

-- an answers file; the place is the first bad line
abbrev pub answers_file : List ℕ → NamedFile
answers_file name = record { name = name; limit = 67108864; refused = λ content. refusal_of (answer_rows content) }

-- ---- what the files that a shelf tells come to

-- the fault of a content, or of no file
abbrev pub fault_in : NamedFile → Option (List ℕ) → Option FileFault
fault_in named None = Some Missing
fault_in named (Some content) = if nat_lt named.limit (length content) then Some Long else named.refused content

-- a file that can't be had, and why
pub record Stop : Type 0 where
  pub name : List ℕ
  pub fault : FileFault

abbrev pub stop_in : Files → NamedFile → Option Stop
stop_in files named =
    option_map (λ fault. record { name = named.name; fault = fault }) (fault_in named (file named.name files))

-- the first of the named files, in their order, that has a fault
abbrev pub first_fault : Files → List NamedFile → Option Stop
first_fault files [] = None
first_fault files (named ∷ others) = option_or (stop_in files named) (first_fault files others)

-- ---- what was read, also if the shelf doesn't tell its files

-- a content within the limit, of which this holds; if the shelf tells its files, it is that of the file
pub record ReadOf (files : Option Files) (named : NamedFile) (P : List ℕ → Type 0) : Type 0 where
  pub content : List ℕ
  pub short : length content ≤ named.limit
  pub told : OfFile files named.name (λ held. held ≡ Some content)
  pub holds : P content

-- the bytes are these trust anchors, and are read as them
pub record AnchorsOf (content : List ℕ) (anchors : List CertView) : Type 0 where
  pub read : anchors_in content ≡ Ok anchors
  pub text : AnchorText content anchors

-- the file is there, within its limit and in its grammar
abbrev pub Passes : Option Files → NamedFile → Type 0
Passes files named = ReadOf files named (λ content. named.refused content ≡ None)

-- what a fault says of the file
abbrev pub FaultSays : Option Files → NamedFile → FileFault → Type 0
FaultSays files named Missing = OfFile files named.name (λ held. held ≡ None)
FaultSays files named Long = OfFile files named.name (IsLonger named.limit)
FaultSays files named Failed = Unit {0}
FaultSays files named (Refused place) = ReadOf files named (λ content. named.refused content ≡ Some (Refused place))
FaultSays files named NoList = ReadOf files named (λ content. named.refused content ≡ Some NoList)
FaultSays files named Memory = Unit {0}

-- a content is refused so, or memory ran out
abbrev pub IsRefusal : Option FileFault → FileFault → Type 0
IsRefusal refusal Missing = ⊥
IsRefusal refusal Long = ⊥
IsRefusal refusal Failed = ⊥
IsRefusal refusal (Refused place) = refusal ≡ Some (Refused place)
IsRefusal refusal NoList = refusal ≡ Some NoList
IsRefusal refusal Memory = Unit {0}

-- what a fault of the shelf says of the file of that name and limit
abbrev pub ShelfSays : Option Files → List ℕ → ℕ → FileFault → Type 0
ShelfSays files name limit Missing = OfFile files name (λ held. held ≡ None)
ShelfSays files name limit Long = OfFile files name (IsLonger limit)
ShelfSays files name limit Failed = Unit {0}
ShelfSays files name limit (Refused place) = ⊥
ShelfSays files name limit NoList = ⊥
ShelfSays files name limit Memory = Unit {0}

-- each fault comes only if the shelf's own count of it rose; a file that is refused was read
abbrev pub CausedBy : Counts → Counts → FileFault → Type 0
CausedBy before now Missing = Rose before.misses now.misses
CausedBy before now Long = Rose before.longs now.longs
CausedBy before now Failed = Rose before.faults now.faults
CausedBy before now (Refused place) = Rose before.reads now.reads
CausedBy before now NoList = Rose before.reads now.reads
CausedBy before now Memory = Unit {0}

-- the reading ended at one of the files, and those before it have no fault
abbrev pub StopsAt : Option Files → List NamedFile → Stop → Type 0
StopsAt files [] stop = ⊥
StopsAt files (named ∷ others) stop =
    ((stop.name ≡ named.name) × FaultSays files named stop.fault) ⊎ (Passes files named × StopsAt files others stop)

-- a read that failed and running out of memory are told by no file
abbrev pub IsOutside : FileFault → Type 0
IsOutside Missing = ⊥
IsOutside Long = ⊥
IsOutside Failed = Unit {0}
IsOutside (Refused place) = ⊥
IsOutside NoList = ⊥
IsOutside Memory = Unit {0}
