-- A command over named files: they are read first, and what it promises after them is a course of its own, by what they
-- say.
use Rattle.std.specs.Prelude.{◌≡◌, ◌⊎◌, ℕ, ◌+◌, ◌≤◌, List, length, Option, Some, None}
use Rattle.stir_files.specs.Named.{NamedFile, first_fault}
use Rattle.stir_outside.specs.Files.{Counts, CountsGoOn, Files}
use Rattle.stir_cmd.specs.Outside.{Outside, outside}
use Rattle.stir_cmd.specs.Course.{Course}
use Rattle.stir_cmd.specs.Stopping.{AnswersFault, Early, EndsEarly, FileFailed, FileRefused, Front, HaveNoFault}
use Rattle.stir_cmd.specs.Stopping.{IsEarly, IsQuiet}

-- which files, in their order; what is read of them; when what was read matches them; and the course by what was read
pub record OverFiles : Type 1 where
  pub named : List NamedFile
  pub Read : Type 0
  pub Stands : Option Files → Read → Type 0
  pub course : Read → Course

-- the same outside, with other counts of the shelf
abbrev pub counted : Outside → Counts → Outside
counted before counts = outside before.files counts before.left before.read_faults before.written before.write_faults

-- The files were read, each once at most, and have no fault, and this is said of the run after them.
pub record Behind (over : OverFiles) (before now : Outside) (Says : over.Read → Outside → Type 0) : Type 0 where
  pub read : over.Read
  pub stands : over.Stands before.files read
  pub no_fault : HaveNoFault before.files over.named
  pub counts : Counts
  pub go_on : CountsGoOn before.counts counts
  pub reads : counts.reads ≤ before.counts.reads + length over.named
  pub stay : counts.faults ≤ now.counts.faults
  pub says : Says read (counted before counts)

-- If a named file has a fault the status says so; and if none has, it is the one that is asked for after them.
pub record AnswersFiles (over : OverFiles) (before now : Outside) (status : ℕ) : Type 0 where
  pub fault : AnswersFault over.named before now status
  pub none : (files : Files) → before.files ≡ Some files → first_fault files over.named ≡ None → IsQuiet before now
      → Behind over before now (λ read mid. (over.course read).Answers mid now status) ⊎ (status ≡ 6)

-- the whole: a named file can't be had, or memory ran out before the input was begun; or it goes on after the files
abbrev pub over_files : OverFiles → Course
over_files over = record {
  Came = λ before now status. Behind over before now (λ read mid. (over.course read).Came mid now status)
      ⊎ EndsEarly over.named before now status;
  Done = λ before now status. Behind over before now (λ read mid. (over.course read).Done mid now status);
  Unread = λ before now. FileFailed over.named before now
      ⊎ Behind over before now (λ read mid. (over.course read).Unread mid now);
  Unwritten = λ before now. Front before now (IsEarly over.named before now)
      ⊎ Behind over before now (λ read mid. (over.course read).Unwritten mid now);
  Refused = λ before now. FileRefused over.named before now
      ⊎ Behind over before now (λ read mid. (over.course read).Refused mid now);
  Short =
      λ before now. Early over.named before now ⊎ Behind over before now (λ read mid. (over.course read).Short mid now);
  Answers = λ before now status. AnswersFiles over before now status;
  Through = λ before now status. Behind over before now (λ read mid. (over.course read).Through mid now status);
  Says = λ before now status. Behind over before now (λ read mid. (over.course read).Says mid now status);
}
