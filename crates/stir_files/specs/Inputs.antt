-- Files that a command names, in the order of reading, and what is read from them (this project's own rule).
use Rattle.std.specs.Prelude.{◌≡◌, ℕ, Bool, true, false, not, ◌&&◌, List, [], ◌∷◌, is_some, map, Option, None}
use Rattle.std.specs.List.{list_any}
use Rattle.std.specs.Option.{IsSomeAnd}
use Rattle.stir_outside.specs.Files.{Files}
use Rattle.stir_outside.specs.Held.{AnswersOf}
use Rattle.tn_auth_list.specs.Grant.{TableOf}
use Rattle.cert_store.specs.ChainMap.{MapOf}
use Rattle.stir_files.specs.Leaf.{LeafOf, leaf_file}
use Rattle.stir_files.specs.Named.{AnchorsOf, NamedFile, ReadOf, anchor_file, answers_file, chain_map, code_table}
use Rattle.stir_files.specs.StateFile.{StateOf, state_file}
use Rattle.stir_files.specs.declared.input_file.InputFile.{InputFile}
use Rattle.stir_files.specs.declared.input_file.InputFile.TheVariants.{Chains, Anchors, Table, Answers, Leaf, State}
use Rattle.stir_files.specs.declared.inputs.Inputs.{Inputs}

-- the file's name, limit and grammar
abbrev pub file_of : InputFile → NamedFile
file_of (Chains name) = chain_map name.now
file_of (Anchors name) = anchor_file name.now
file_of (Table name) = code_table name.now
file_of (Answers name) = answers_file name.now
file_of (Leaf name) = leaf_file name.now
file_of (State file) = state_file file.window file.name.now

abbrev pub files_named : List InputFile → List NamedFile
files_named named = map file_of named

-- two files are to hold the same
abbrev pub same_kind : InputFile → InputFile → Bool
same_kind (Chains a) (Chains b) = true
same_kind (Anchors a) (Anchors b) = true
same_kind (Table a) (Table b) = true
same_kind (Answers a) (Answers b) = true
same_kind (Leaf a) (Leaf b) = true
same_kind (State a) (State b) = true
same_kind a b = false

-- no two of the files are to hold the same
abbrev pub all_differ : List InputFile → Bool
all_differ [] = true
all_differ (file ∷ others) = not (list_any (same_kind file) others) && all_differ others

-- ---- what was read

-- what was read from a file is what this content says
abbrev pub HoldsContent : Inputs → InputFile → List ℕ → Type 0
HoldsContent inputs (Chains name) content = IsSomeAnd inputs.chains (MapOf content)
HoldsContent inputs (Anchors name) content = IsSomeAnd inputs.anchors (AnchorsOf content)
HoldsContent inputs (Table name) content = IsSomeAnd inputs.table (TableOf content)
HoldsContent inputs (Answers name) content = IsSomeAnd inputs.answers (AnswersOf content)
HoldsContent inputs (Leaf name) content = IsSomeAnd inputs.leaf (LeafOf content)
HoldsContent inputs (State file) content = IsSomeAnd inputs.state (StateOf file.window content)

-- what was read from a file is what it says
abbrev pub HoldsFile : Option Files → Inputs → InputFile → Type 0
HoldsFile files inputs file = ReadOf files (file_of file) (HoldsContent inputs file)

-- and of each of the files
abbrev pub Holds : Option Files → List InputFile → Inputs → Type 0
Holds files [] inputs = Unit {0}
Holds files (file ∷ others) inputs = HoldsFile files inputs file × Holds files others inputs

-- something was read from a file of this kind
abbrev pub has_part : Inputs → InputFile → Bool
has_part inputs (Chains name) = is_some inputs.chains
has_part inputs (Anchors name) = is_some inputs.anchors
has_part inputs (Table name) = is_some inputs.table
has_part inputs (Answers name) = is_some inputs.answers
has_part inputs (Leaf name) = is_some inputs.leaf
has_part inputs (State file) = is_some inputs.state

-- something was read from a kind exactly if a file of it is named
abbrev pub IsOfThese : List InputFile → Inputs → Type 0
IsOfThese named inputs = (file : InputFile) → has_part inputs file ≡ list_any (same_kind file) named

-- ---- one file more

abbrev pub no_inputs : Inputs
no_inputs = record { chains = None; anchors = None; table = None; answers = None; leaf = None; state = None }

-- what was read from other files is as it was
abbrev pub KeepsOthers : InputFile → Inputs → Inputs → Type 0
KeepsOthers (Chains name) before now = now ≡ record before { chains = now.chains }
KeepsOthers (Anchors name) before now = now ≡ record before { anchors = now.anchors }
KeepsOthers (Table name) before now = now ≡ record before { table = now.table }
KeepsOthers (Answers name) before now = now ≡ record before { answers = now.answers }
KeepsOthers (Leaf name) before now = now ≡ record before { leaf = now.leaf }
KeepsOthers (State file) before now = now ≡ record before { state = now.state }

-- what this content of the file says was read besides
pub record TakesIn (file : InputFile) (content : List ℕ) (before now : Inputs) : Type 0 where
  pub holds : HoldsContent now file content
  pub others : KeepsOthers file before now

-- what the file says was read besides
pub record Adds (files : Option Files) (file : InputFile) (before now : Inputs) : Type 0 where
  pub holds : HoldsFile files now file
  pub others : KeepsOthers file before now
