-- A course keeps what it promises: what a run came to gives it.
use Rattle.std.proofs.Common.{ℕ, ◌≤◌}
use Rattle.stir_outside.specs.Ending.{memory_line}
use Rattle.stir_cmd.specs.Outside.{IsUntouched, Outside}
use Rattle.stir_cmd.specs.Course.{Course}
use Rattle.stir_cmd.specs.Stopping.{Ends}
use Rattle.stir_cmd.proofs.StatusCauses.{CauseOf}

-- each status has its cause, but for the status of refused words, which doesn't come
abbrev pub CausesIn : Course → Outside → Outside → ℕ → Type 0
CausesIn course before now status =
    CauseOf (course.Done before now status) ⊥ (course.Unread before now) (course.Unwritten before now) (course.Refused before now) (course.Short before now) status

pub record Keeps (course : Course) : Type 0 where
  pub causes : (before now : Outside) (status : ℕ) → course.Came before now status → CausesIn course before now status
  pub answers : (before now : Outside) (status : ℕ) → course.Came before now status → course.Answers before now status
  pub through : (before now : Outside) (status : ℕ) → course.Came before now status → status ≤ 1 → course.Through before now status
  pub says : (before now : Outside) (status : ℕ) → course.Came before now status → status ≤ 1 → course.Says before now status

-- and memory may have run out before anything was read
pub record KeepsAll (course : Course) : Type 0 where
  pub keeps : Keeps course
  pub wanting : (before now : Outside) (status : ℕ) → IsUntouched before now → Ends before now status memory_line 6 → course.Came before now status
