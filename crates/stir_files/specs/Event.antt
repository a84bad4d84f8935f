-- What the program says and ends with if a named file can't be had (this project's own rule).
use Rattle.std.specs.Prelude.{ℕ, List, ◌++◌, codes}
use Rattle.std.specs.Fmt.{decimal}
use Rattle.stir_files.specs.declared.fault.FileFault.{FileFault}
use Rattle.stir_files.specs.declared.fault.FileFault.TheVariants.{Missing, Long, Failed, Refused, NoList, Memory}
use Rattle.stir_outside.specs.Ending.{memory_line}
use Rattle.stir_outside.specs.declared.status.Status.{Status}
use Rattle.stir_outside.specs.declared.status.Status.TheVariants.{Read, Input, Memory as WantOfMemory}

-- the line of a fault of the file of that name
abbrev pub event_line : List ℕ → FileFault → List ℕ
event_line name Missing = codes "missing " ++ (name ++ codes "\n")
event_line name Long = codes "long " ++ (name ++ codes "\n")
event_line name Failed = codes "read fault " ++ (name ++ codes "\n")
event_line name (Refused place) = codes "refused " ++ (name ++ (codes " " ++ (decimal place ++ codes "\n")))
event_line name NoList = codes "no list " ++ (name ++ codes "\n")
event_line name Memory = memory_line

abbrev pub fault_status : FileFault → Status
fault_status Missing = Input
fault_status Long = Input
fault_status Failed = Read
fault_status (Refused place) = Input
fault_status NoList = Input
fault_status Memory = WantOfMemory
