-- The named files were read, and the run goes on after them.
use Rattle.std.proofs.Common.{◌≡◌, ℕ, ◌+◌, ◌≤◌, length, inl, inr, List, Option, Ok, subst}
use Rattle.stir_files.specs.Stop.{Truly}
use Rattle.stir_outside.specs.Files.{Counts, CountsGoOn, Files}
use Rattle.stir_cmd.specs.Outside.{Outside, outside}
use Rattle.stir_cmd.specs.OverFiles.{OverFiles, over_files}
use Rattle.stir_cmd.specs.Stopping.{NoMemory}
use Rattle.stir_cmd.proofs.StopSteps.{no_fault}

pub goes_on : (over : OverFiles) (read : over.Read) (files files_now : Option Files) (counts counts_now : Counts) (left : Option (List ℕ)) (reads : ℕ) (written : Option (List ℕ)) (writes : ℕ) (now : Outside) (status : ℕ)
    → over.Stands files read → Truly files over.named (Ok read) → files_now ≡ files → CountsGoOn counts counts_now → counts_now.reads ≤ counts.reads + length over.named
    → counts_now.faults ≤ now.counts.faults
    → (over.course read).Came (outside files_now counts_now left reads written writes) now status → (over_files over).Came (outside files counts left reads written writes) now status
goes_on over read files files_now counts counts_now left reads written writes now status stands truly same goes few stay came = inl (record {
  read = read;
  stands = stands;
  no_fault = no_fault files over.named read truly;
  counts = counts_now;
  go_on = goes;
  reads = few;
  stay = stay;
  says = subst (λ (x : Option Files). (over.course read).Came (outside x counts_now left reads written writes) now status) same came;
})

-- memory ran out after the files
pub short_behind : (over : OverFiles) (files files_now : Option Files) (counts counts_now : Counts) (left : Option (List ℕ)) (reads : ℕ) (written : Option (List ℕ)) (writes : ℕ) (now : Outside) (status : ℕ)
    → NoMemory (outside files_now counts_now left reads written writes) now status → (over_files over).Came (outside files counts left reads written writes) now status
short_behind over files files_now counts counts_now left reads written writes now status none = inr (inr (record { stays = record { left = none.stays.left; read_faults = none.stays.read_faults }; ends = none.ends }))
