-- The named files of each command in the order of reading, with their limits, and what is said of a fault of one: row
-- by row (this project's own rule).
use Rattle.std.specs.Prelude.{◌≡◌, ℕ, List, [], ◌∷◌, ◌++◌, codes, map, Option, Some, None}
use Rattle.std.specs.Fmt.{decimal}
use Rattle.stir_words.specs.Order.{AskingView, HolderNames, JudgingView, RetargetingView}
use Rattle.stir_files.specs.Named.{NamedFile}
use Rattle.stir_files.specs.declared.fault.FileFault.{FileFault}
use Rattle.stir_files.specs.declared.fault.FileFault.TheVariants.{Missing, Long, Failed, Refused, NoList, Memory}
use Rattle.stir_files.specs.declared.input_file.InputFile.{InputFile}
use Rattle.stir_files.specs.declared.input_file.InputFile.TheVariants.{Chains, Anchors, Table, Answers, Leaf, State}

-- ---- the order

-- the name of a file, and the most bytes that it may have
pub record FileRow : Type 0 where
  pub name : List ℕ
  pub most : ℕ

abbrev pub row : List ℕ → ℕ → FileRow
row text bytes = record { name = text; most = bytes }

abbrev pub rows_in : List NamedFile → List FileRow
rows_in named = map (λ (file : NamedFile). row file.name file.limit) named

-- `verify` and `explain`, and `verify` from a state on
abbrev pub judging_rows : JudgingView → List FileRow
judging_rows judging = row judging.chains 16777216 ∷ row judging.anchors 2097152 ∷ row judging.table 16777216
    ∷ row judging.answers 67108864 ∷ []

abbrev pub going_rows : JudgingView → List ℕ → List FileRow
going_rows judging state = row judging.chains 16777216 ∷ row judging.anchors 2097152 ∷ row judging.table 16777216
    ∷ row judging.answers 67108864 ∷ row state 536870912 ∷ []

-- `ask`
abbrev pub asking_rows : AskingView → List FileRow
asking_rows asking = row asking.chains 16777216 ∷ row asking.anchors 2097152 ∷ row asking.table 16777216 ∷ []

-- `sign` and `divert`
abbrev pub signing_rows : List ℕ → Option HolderNames → List FileRow
signing_rows answers None = row answers 67108864 ∷ []
signing_rows answers (Some names) = row answers 67108864 ∷ row names.leaf 8192 ∷ row names.table 16777216 ∷ []

-- `retarget`
abbrev pub retargeting_rows : RetargetingView → List FileRow
retargeting_rows words = row words.judging.chains 16777216 ∷ row words.judging.anchors 2097152
    ∷ row words.judging.table 16777216 ∷ row words.judging.answers 67108864 ∷ row words.leaf 8192 ∷ []

-- a file of one kind, wherever it is named
abbrev pub row_of : InputFile → FileRow
row_of (Chains name) = row name.now 16777216
row_of (Anchors name) = row name.now 2097152
row_of (Table name) = row name.now 16777216
row_of (Answers name) = row name.now 67108864
row_of (Leaf name) = row name.now 8192
row_of (State file) = row file.name.now 536870912

-- ---- the lines

-- the words of a line with one space between them, and its LF
abbrev pub line_by : List (List ℕ) → List ℕ
line_by [] = codes "\n"
line_by (word ∷ []) = word ++ codes "\n"
line_by (word ∷ second ∷ others) = word ++ (32 ∷ line_by (second ∷ others))

-- a fault is said by these words and this status
pub record IsSaidBy (line : List ℕ) (status : ℕ) (words : List (List ℕ)) (number : ℕ) : Type 0 where
  pub text : line ≡ line_by words
  pub ends : status ≡ number

-- the words and the status of each fault of the file of that name
abbrev pub IsSaid : List ℕ → FileFault → List ℕ → ℕ → Type 0
IsSaid name Missing line status = IsSaidBy line status (codes "missing" ∷ name ∷ []) 5
IsSaid name Long line status = IsSaidBy line status (codes "long" ∷ name ∷ []) 5
IsSaid name Failed line status = IsSaidBy line status (codes "read" ∷ codes "fault" ∷ name ∷ []) 3
IsSaid name (Refused place) line status = IsSaidBy line status (codes "refused" ∷ name ∷ decimal place ∷ []) 5
IsSaid name NoList line status = IsSaidBy line status (codes "no" ∷ codes "list" ∷ name ∷ []) 5
IsSaid name Memory line status = IsSaidBy line status (codes "want" ∷ codes "of" ∷ codes "memory" ∷ []) 6
