-- Where the reading of named files ends (this project's own rule).
use Rattle.std.specs.Prelude.{◌≡◌, ◌⊎◌, List, Option, Some, None, Result, Ok, Err}
use Rattle.stir_outside.specs.Files.{Files}
use Rattle.stir_files.specs.Named.{IsOutside, NamedFile, Stop, first_fault}
use Rattle.stir_files.specs.declared.stop.FileError.{FileError}

abbrev pub stop_of : FileError → Stop
stop_of stop = record { name = stop.name.now; fault = stop.fault }

-- if the files are told, the answer is their first fault or none, except for what the outside does
abbrev pub TrulyOf : {X : Type 0} → Files → List NamedFile → Result X FileError → Type 0
TrulyOf files named (Ok read) = first_fault files named ≡ None
TrulyOf files named (Err stop) = (first_fault files named ≡ Some (stop_of stop)) ⊎ IsOutside stop.fault

abbrev pub Truly : {X : Type 0} → Option Files → List NamedFile → Result X FileError → Type 0
Truly None named result = Unit {0}
Truly (Some files) named result = TrulyOf files named result
