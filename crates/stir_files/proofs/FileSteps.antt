-- The steps of reading one file.
use Rattle.std.proofs.Common.{◌≡◌, ℕ, ◌≤◌, List, length, Option, Some, Result, Err, ap, subst}
use Rattle.stir_outside.specs.Count.{Rose}
use Rattle.stir_outside.specs.Files.{Counts, Files, OfFile}
use Rattle.stir_files.specs.Inputs.{Adds}
use Rattle.stir_files.specs.Named.{CausedBy, FaultSays, IsRefusal, NamedFile, ShelfSays, refusal_of}
use Rattle.stir_files.specs.declared.fault.FileFault.{FileFault}
use Rattle.stir_files.specs.declared.fault.FileFault.TheVariants.{Missing, Long, Failed, Refused, NoList, Memory}
use Rattle.stir_files.specs.declared.input_file.InputFile.{InputFile}
use Rattle.stir_files.specs.declared.inputs.Inputs.{Inputs}

-- what a fault of the shelf says of a file
pub shelf_says : (files : Option Files) (named : NamedFile) (fault : FileFault) → ShelfSays files named.name named.limit fault → FaultSays files named fault
shelf_says files named Missing h = h
shelf_says files named Long h = h
shelf_says files named Failed h = h
shelf_says files named (Refused place) h = absurd h
shelf_says files named NoList h = absurd h
shelf_says files named Memory h = h

pub place_at : {X : Type 0} (read : Result X ℕ) (place : ℕ) → read ≡ Err place → refusal_of read ≡ Some (Refused place)
place_at read place h = ap refusal_of h

-- ---- a content that was read

-- a content that was read and is refused
pub refused_so : (files : Option Files) (named : NamedFile) (content : List ℕ) (fault : FileFault) → length content ≤ named.limit
    → OfFile files named.name (λ held. held ≡ Some content) → IsRefusal (named.refused content) fault → FaultSays files named fault
refused_so files named content Missing short told h = absurd h
refused_so files named content Long short told h = absurd h
refused_so files named content Failed short told h = tt
refused_so files named content (Refused place) short told h = record { content = content; short = short; told = told; holds = h }
refused_so files named content NoList short told h = record { content = content; short = short; told = told; holds = h }
refused_so files named content Memory short told h = tt

pub refused_caused : (before now : Counts) (refusal : Option FileFault) (fault : FileFault) → Rose before.reads now.reads → IsRefusal refusal fault → CausedBy before now fault
refused_caused before now refusal Missing rose h = absurd h
refused_caused before now refusal Long rose h = absurd h
refused_caused before now refusal Failed rose h = absurd h
refused_caused before now refusal (Refused place) rose h = rose
refused_caused before now refusal NoList rose h = rose
refused_caused before now refusal Memory rose h = tt

-- ---- after others

-- the shelf tells the same files
pub adds_then : (files mid : Option Files) (file : InputFile) (before now : Inputs) → mid ≡ files → Adds mid file before now → Adds files file before now
adds_then files mid file before now same adds = let Q : Option Files → Type 0 = λ x. Adds x file before now in subst Q same adds

pub says_then : (files mid : Option Files) (named : NamedFile) (fault : FileFault) → mid ≡ files → FaultSays mid named fault → FaultSays files named fault
says_then files mid named fault same says = let Q : Option Files → Type 0 = λ x. FaultSays x named fault in subst Q same says
