-- Files and faults, row by row.
use Rattle.std.proofs.Common.{◌≡◌, ℕ, List, Option, Some, None, refl}
use Rattle.stir_outside.specs.Ending.{memory_line}
use Rattle.stir_outside.specs.Status.{status_number}
use Rattle.stir_words.specs.Order.{HolderNames}
use Rattle.stir_files.specs.Event.{event_line, fault_status}
use Rattle.stir_files.specs.Inputs.{file_of}
use Rattle.stir_files.specs.Rows.{IsSaid, row, row_of, rows_in, signing_rows}
use Rattle.stir_files.specs.Signing.{signing_files}
use Rattle.stir_files.specs.declared.fault.FileFault.{FileFault}
use Rattle.stir_files.specs.declared.fault.FileFault.TheVariants.{Missing, Long, Failed, Refused, NoList, Memory}
use Rattle.stir_files.specs.declared.input_file.InputFile.{InputFile}
use Rattle.stir_files.specs.declared.input_file.InputFile.TheVariants.{Chains, Anchors, Table, Answers, Leaf, State}

pub signing_are : (answers : List ℕ) (holder : Option HolderNames) → rows_in (signing_files answers holder) ≡ signing_rows answers holder
signing_are answers None = refl
signing_are answers (Some names) = refl

pub kinds_are : (file : InputFile) → row (file_of file).name (file_of file).limit ≡ row_of file
kinds_are (Chains name) = refl
kinds_are (Anchors name) = refl
kinds_are (Table name) = refl
kinds_are (Answers name) = refl
kinds_are (Leaf name) = refl
kinds_are (State file) = refl

pub faults_are : (name : List ℕ) (fault : FileFault) → IsSaid name fault (event_line name fault) (status_number (fault_status fault))
unfolding memory_line
faults_are name Missing = record { text = refl; ends = refl }
faults_are name Long = record { text = refl; ends = refl }
faults_are name Failed = record { text = refl; ends = refl }
faults_are name (Refused place) = record { text = refl; ends = refl }
faults_are name NoList = record { text = refl; ends = refl }
faults_are name Memory = record { text = refl; ends = refl }
