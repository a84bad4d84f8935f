-- The steps of reading a list of files.
use Rattle.std.proofs.Common.{◌≡◌, ℕ, ◌+◌, ◌<◌, ◌≤◌, inl, inr, Bool, true, false, not, ◌&&◌, ◌||◌, List, [], ◌∷◌, length, drop, get_or, is_some, Option, None, Some, suc, refl, sym, ◌∙◌, ap, subst, add-one}
use Rattle.std.specs.List.{list_any}
use Rattle.std.proofs.Math.Seq.{drop-cons}
use Rattle.std.proofs.lemmas.Bool.{false≢true}
use Rattle.std.proofs.lemmas.List.{drop_all}
use Rattle.std.specs.Option.{IsSomeAnd}
use Rattle.stir_outside.specs.Files.{Files}
use Rattle.stir_files.specs.Inputs.{Adds, Holds, HoldsContent, HoldsFile, IsOfThese, KeepsOthers, all_differ, file_of, files_named, has_part, no_inputs, same_kind}
use Rattle.stir_files.specs.Named.{FaultSays, Passes, Stop, StopsAt, refusal_of}
use Rattle.stir_files.specs.declared.fault.FileFault.{FileFault}
use Rattle.stir_files.specs.declared.input_file.InputFile.{InputFile}
use Rattle.stir_files.specs.declared.input_file.InputFile.TheVariants.{Chains, Anchors, Table, Answers, Leaf, State}
use Rattle.stir_files.specs.declared.inputs.Inputs.{Inputs}
use Rattle.stir_files.proofs.LeafSteps.{is_fit}
use Rattle.stir_files.proofs.StateSteps.{passes_so}

-- ---- a file that was read has no fault

read_and : {X : Type 0} (part : Option X) (P : X → Type 0) (C : Type 0) → ((x : X) → P x → C) → IsSomeAnd part P → C
read_and None P C f h = absurd h
read_and (Some x) P C f h = f x h

fits : (inputs : Inputs) (file : InputFile) (content : List ℕ) → HoldsContent inputs file content → (file_of file).refused content ≡ None
fits inputs (Chains name) content h = read_and inputs.chains _ _ (λ map m. ap refusal_of m.read) h
fits inputs (Anchors name) content h = read_and inputs.anchors _ _ (λ anchors a. ap refusal_of a.read) h
fits inputs (Table name) content h = read_and inputs.table _ _ (λ table t. ap refusal_of t.read) h
fits inputs (Answers name) content h = read_and inputs.answers _ _ (λ answers a. ap refusal_of a.read) h
fits inputs (Leaf name) content h = read_and inputs.leaf _ _ (λ leaf l. is_fit content leaf l) h
fits inputs (State file) content h = read_and inputs.state _ _ (λ state s. passes_so file.window content state s) h

pub passes : (files : Option Files) (inputs : Inputs) (file : InputFile) → HoldsFile files inputs file → Passes files (file_of file)
passes files inputs file read = record { content = read.content; short = read.short; told = read.told; holds = fits inputs file read.content read.holds }

-- ---- one file after another

-- each of the files was read besides, in their order
abbrev pub AddsAll : Option Files → List InputFile → Inputs → Inputs → Type 0
AddsAll files [] before now = now ≡ before
AddsAll files (file ∷ others) before now = (mid : Inputs) × Adds files file before mid × AddsAll files others mid now

-- what comes of the files that are left comes of all
pub record ReadsOn (files : Option Files) (left all : List InputFile) (inputs : Inputs) : Type 0 where
  pub adds : (now : Inputs) → AddsAll files left inputs now → AddsAll files all no_inputs now
  pub stops : (stop : Stop) → StopsAt files (files_named left) stop → StopsAt files (files_named all) stop

one_read : (files : Option Files) (file : InputFile) (left all : List InputFile) (before now : Inputs) → ReadsOn files (file ∷ left) all before → Adds files file before now
    → ReadsOn files left all now
one_read files file left all before now reads one = record {
  adds = λ last others. reads.adds last (now, one, others);
  stops = λ stop others. reads.stops stop (inr (passes files now file one.holds, others));
}

pub read_at : (files : Option Files) (all : List InputFile) (index : ℕ) (d : InputFile) (before now : Inputs) → index < length all → ReadsOn files (drop index all) all before
    → Adds files (get_or all index d) before now → ReadsOn files (drop (index + 1) all) all now
read_at files all index d before now within reads one =
    let P : List InputFile → Type 0 = λ x. ReadsOn files x all before in
    rw add-one (one_read files (get_or all index d) (drop (suc index) all) all before now (subst P (drop-cons all index d within) reads) one)

pub refused_at : (files : Option Files) (all : List InputFile) (index : ℕ) (d : InputFile) (before : Inputs) (name : List ℕ) (fault : FileFault) → index < length all
    → ReadsOn files (drop index all) all before → name ≡ (file_of (get_or all index d)).name → FaultSays files (file_of (get_or all index d)) fault
    → StopsAt files (files_named all) (record { name = name; fault = fault })
refused_at files all index d before name fault within reads same says =
    let P : List InputFile → Type 0 = λ x. ReadsOn files x all before in
    let here = subst P (drop-cons all index d within) reads in
    here.stops (record { name = name; fault = fault }) (inl (same, says))

-- the same of the file that the code takes
pub read_item : (files : Option Files) (all : List InputFile) (index : ℕ) (one : InputFile) (before now : Inputs) → index < length all → one ≡ get_or all index one
    → ReadsOn files (drop index all) all before → Adds files one before now → ReadsOn files (drop (index + 1) all) all now
read_item files all index one before now within is reads adds =
    read_at files all index one before now within reads (subst (λ (x : InputFile). Adds files x before now) is adds)

pub refused_item : (files : Option Files) (all : List InputFile) (index : ℕ) (one : InputFile) (before : Inputs) (name : List ℕ) (fault : FileFault) → index < length all → one ≡ get_or all index one
    → ReadsOn files (drop index all) all before → name ≡ (file_of one).name → FaultSays files (file_of one) fault → StopsAt files (files_named all) (record { name = name; fault = fault })
refused_item files all index one before name fault within is reads same says =
    refused_at files all index one before name fault within reads (subst (λ (x : InputFile). name ≡ (file_of x).name) is same) (subst (λ (x : InputFile). FaultSays files (file_of x) fault) is says)

-- ---- all were read

-- what was read from a file stays if one of another kind is read
keeps : (files : Option Files) (file other : InputFile) (before now : Inputs) → same_kind file other ≡ false → KeepsOthers other before now
    → HoldsFile files before file → HoldsFile files now file
keeps files (Chains a) (Chains b) before now differ kept h = absurd (false≢true (sym differ))
keeps files (Anchors a) (Anchors b) before now differ kept h = absurd (false≢true (sym differ))
keeps files (Table a) (Table b) before now differ kept h = absurd (false≢true (sym differ))
keeps files (Answers a) (Answers b) before now differ kept h = absurd (false≢true (sym differ))
keeps files (Leaf a) (Leaf b) before now differ kept h = absurd (false≢true (sym differ))
keeps files (State a) (State b) before now differ kept h = absurd (false≢true (sym differ))
keeps files file other before now differ kept h = subst (λ (x : Inputs). HoldsFile files x file) (sym kept) h

either : (a b : Bool) → (a || b) ≡ false → (a ≡ false) × (b ≡ false)
either true b h = absurd (false≢true (sym h))
either false b h = (refl, h)

both : (a b : Bool) → (not a && b) ≡ true → (a ≡ false) × (b ≡ true)
both true b h = absurd (false≢true h)
both false b h = (refl, h)

keeps_all : (files : Option Files) (file : InputFile) (others : List InputFile) (before now : Inputs) → list_any (same_kind file) others ≡ false → AddsAll files others before now
    → HoldsFile files before file → HoldsFile files now file
keeps_all files file [] before now differ adds h = subst (λ (x : Inputs). HoldsFile files x file) (sym adds) h
keeps_all files file (other ∷ others) before now differ adds h =
    let apart = either (same_kind file other) (list_any (same_kind file) others) differ in
    keeps_all files file others adds.0 now apart.1 adds.2 (keeps files file other before adds.0 apart.0 adds.1.others h)

pub all_held : (files : Option Files) (named : List InputFile) (before now : Inputs) → all_differ named ≡ true → AddsAll files named before now → Holds files named now
all_held files [] before now differ adds = tt
all_held files (file ∷ others) before now differ adds =
    let apart = both (list_any (same_kind file) others) (all_differ others) differ in
    (keeps_all files file others adds.0 now apart.0 adds.2 adds.1.holds, all_held files others adds.0 now apart.1 adds.2)

-- after the last file
pub all_read : (files : Option Files) (all : List InputFile) (index : ℕ) (inputs : Inputs) → length all ≤ index → ReadsOn files (drop index all) all inputs
    → AddsAll files all no_inputs inputs
all_read files all index inputs beyond reads =
    let P : List InputFile → Type 0 = λ x. ReadsOn files x all inputs in
    let last = subst P (drop_all index all beyond) reads in
    last.adds inputs refl

-- ---- nothing else was read

-- what was read from a file that is named is there
pub is_there : {X : Type 0} (part : Option X) (P : X → Type 0) → IsSomeAnd part P → is_some part ≡ true
is_there None P h = absurd h
is_there (Some x) P h = refl

one_more : (files : Option Files) (file other : InputFile) (before now : Inputs) → Adds files other before now → has_part now file ≡ (same_kind file other || has_part before file)
one_more files (Chains a) (Chains b) before now adds = is_there now.chains _ adds.holds.holds
one_more files (Anchors a) (Anchors b) before now adds = is_there now.anchors _ adds.holds.holds
one_more files (Table a) (Table b) before now adds = is_there now.table _ adds.holds.holds
one_more files (Answers a) (Answers b) before now adds = is_there now.answers _ adds.holds.holds
one_more files (Leaf a) (Leaf b) before now adds = is_there now.leaf _ adds.holds.holds
one_more files (State a) (State b) before now adds = is_there now.state _ adds.holds.holds
one_more files file other before now adds = ap (λ (x : Inputs). has_part x file) adds.others

one_before : (a b c : Bool) → (a || (b || c)) ≡ ((b || a) || c)
one_before true true c = refl
one_before true false c = refl
one_before false true c = refl
one_before false false c = refl

nothing_else : (files : Option Files) (file : InputFile) (named : List InputFile) (before now : Inputs) → AddsAll files named before now
    → has_part now file ≡ (list_any (same_kind file) named || has_part before file)
nothing_else files file [] before now adds = ap (λ (x : Inputs). has_part x file) adds
nothing_else files file (other ∷ others) before now adds =
    nothing_else files file others adds.0 now adds.2
    ∙ ap (λ x. list_any (same_kind file) others || x) (one_more files file other before adds.0 adds.1)
    ∙ one_before (list_any (same_kind file) others) (same_kind file other) (has_part before file)

none_at_first : (file : InputFile) (named : Bool) → (named || has_part no_inputs file) ≡ named
none_at_first file true = refl
none_at_first (Chains name) false = refl
none_at_first (Anchors name) false = refl
none_at_first (Table name) false = refl
none_at_first (Answers name) false = refl
none_at_first (Leaf name) false = refl
none_at_first (State file) false = refl

pub of_these : (files : Option Files) (named : List InputFile) (inputs : Inputs) → AddsAll files named no_inputs inputs → IsOfThese named inputs
of_these files named inputs adds = λ file. nothing_else files file named no_inputs inputs adds ∙ none_at_first file (list_any (same_kind file) named)
