-- What any two runs of `verify` on one worker have in common that judge parts of one log by the same files, as a map,
-- whatever ended them: a whole log, a fault of it, or a source that failed. The lines of the run that judged less are
-- the first lines of the other.
use Rattle.std.specs.Prelude.{◌≡◌, ◌⊎◌, ℕ, ◌+◌, ◌≤◌, Bool, List, [], ◌++◌, length, Option, Some, None}
use Rattle.std.specs.Io.KnownBytes.{Appends, Consumes}
use Rattle.call_log.specs.Entry.{Entry}
use Rattle.call_log.specs.Log.{LogText, Passed, after_all}
use Rattle.log_rounds.specs.AllValid.{all_valid}
use Rattle.log_run.specs.Ending.{failed_line, refused_line, report_status}
use Rattle.state_text.specs.State.{StateView}
use Rattle.state_text.specs.StateText.{state_text}
use Rattle.stir_files.specs.Going.{going_files}
use Rattle.stir_files.specs.Materials.{files_of}
use Rattle.stir_files.specs.Named.{NamedFile, Stop, first_fault}
use Rattle.stir_outside.specs.Count.{NotRisen}
use Rattle.stir_outside.specs.Files.{Files}
use Rattle.stir_words.specs.Order.{JudgingView, OrderView, VerifyBy, VerifyingView}
use Rattle.verify_service.specs.Report.{report}
use Rattle.verify_service.specs.declared.outcome.Outcome.{Outcome}
use Rattle.stir_cmd.specs.Causes.{HasCauses}
use Rattle.stir_cmd.specs.OneReport.{AreOneMap, AreOneReport}
use Rattle.stir_cmd.specs.Outside.{IfTold, Outside}

-- ---- how much of the log was judged, and the last line

-- 0 and 1: all of it, and there is no such line; the status says whether all calls are valid
pub record EndsWhole (log bytes : List ℕ) (good : Bool) (status : ℕ) (line : List ℕ) : Type 0 where
  pub done : status ≤ 1
  pub said : status ≡ report_status good
  pub all : bytes ≡ log
  pub none : line ≡ []

-- 3: what was taken of it before the source failed
pub record EndsFailed (log : List ℕ) (left : Option (List ℕ)) (bytes : List ℕ) (status : ℕ)
    (line : List ℕ) : Type 0 where
  pub failed : status ≡ 3
  pub taken : Consumes (Some log) left bytes
  pub says : line ≡ failed_line

-- 5: all of it, and it is at fault at this place
pub record EndsFaulty (log bytes : List ℕ) (place status : ℕ) (line : List ℕ) : Type 0 where
  pub refused : status ≡ 5
  pub all : bytes ≡ log
  pub says : line ≡ refused_line place

abbrev pub EndsSo : List ℕ → Option (List ℕ) → List ℕ → Bool → ℕ → ℕ → List ℕ → Type 0
EndsSo log left bytes good place status line = EndsWhole log bytes good status line
    ⊎ (EndsFailed log left bytes status line ⊎ EndsFaulty log bytes place status line)

-- ---- what was written

-- nothing closes the report, or the text of the state that is handed on
abbrev pub ClosedBy : Option (List ℕ) → List ℕ → Type 0
ClosedBy None closing = closing ≡ []
ClosedBy (Some name) closing = (state : StateView) × (closing ≡ state_text state)

-- The bytes of the log that were judged are these calls and what is no further entry. A line was written for each of
-- the calls, then what closes the report, then the line of the fault, and nothing else.
pub record Reported (verifying : VerifyingView) (log : List ℕ) (before now : Outside) (status : ℕ) : Type 0 where
  pub passed : Passed
  pub bytes : List ℕ
  pub calls : List Entry
  pub rest : List ℕ
  pub log_is : LogText passed bytes calls rest
  pub outcomes : List Outcome
  pub one_each : length outcomes ≡ length calls
  pub closing : List ℕ
  pub closed : ClosedBy verifying.state closing
  pub line : List ℕ
  pub ends : EndsSo log now.left bytes (all_valid outcomes) (after_all passed calls).place status line
  pub written : Appends before.written now.written (report (passed.number + 1) outcomes ++ (closing ++ line))

-- ---- two runs

-- 0, 1, 3 or 5
abbrev pub HasReport : ℕ → Type 0
HasReport status = (status ≤ 1) ⊎ ((status ≡ 3) ⊎ (status ≡ 5))

-- a run over the same files, as a map, and this log that kept what it promises, ended with 0, 1, 3 or 5, and in which
-- no read of the shelf failed
pub record RanOverThese (verifying : VerifyingView) (files : Files) (log : List ℕ) (before now : Outside)
    (status : ℕ) : Type 0 where
  pub others : Files
  pub told : before.files ≡ Some others
  pub same_files : AreOneMap files others
  pub told_log : before.left ≡ Some log
  pub causes : HasCauses (Some (VerifyBy verifying)) before now status
  pub ended : HasReport status
  pub quiet : NotRisen before.counts.faults now.counts.faults

-- if the other's bytes go on from these, so do its outcomes
abbrev pub GoesOn : List ℕ → List Outcome → List ℕ → List Outcome → Type 0
GoesOn bytes outcomes others later = (more : List ℕ) → others ≡ bytes ++ more
    → (behind : List Outcome) × (later ≡ outcomes ++ behind)

-- both ended with 0 or 1, or with one status
abbrev pub EndAlike : ℕ → ℕ → Type 0
EndAlike status other = ((status ≤ 1) × (other ≤ 1)) ⊎ (status ≡ other)

-- The calls that both judged have the same lines; and if both judged the same bytes and ended alike, they wrote the
-- same and ended with one status.
pub record AreOnePrefix (verifying : VerifyingView) (log : List ℕ) (before now : Outside) (status : ℕ)
    (mine : Reported verifying log before now status) (other_log : List ℕ) (other other_now : Outside)
    (other_status : ℕ) : Type 0 where
  pub yours : Reported verifying other_log other other_now other_status
  pub from : mine.passed ≡ yours.passed
  pub first : GoesOn mine.bytes mine.outcomes yours.bytes yours.outcomes
  pub turned : GoesOn yours.bytes yours.outcomes mine.bytes mine.outcomes
  pub same : mine.bytes ≡ yours.bytes → EndAlike status other_status
      → AreOneReport before now status other other_now other_status

-- so it is for each other run over these files, whatever its log
pub record IsOnePrefix (verifying : VerifyingView) (files : Files) (log : List ℕ) (before now : Outside)
    (status : ℕ) : Type 0 where
  pub mine : Reported verifying log before now status
  pub with_each : (other_log : List ℕ) (other other_now : Outside) (other_status : ℕ)
      → RanOverThese verifying files other_log other other_now other_status
      → AreOnePrefix verifying log before now status mine other_log other other_now other_status

-- a named file is refused: each other run over these files wrote the same
pub record IsOneStop (verifying : VerifyingView) (files : Files) (before now : Outside) (status : ℕ) : Type 0 where
  pub refused : status ≡ 5
  pub with_each : (other_log : List ℕ) (other other_now : Outside) (other_status : ℕ)
      → RanOverThese verifying files other_log other other_now other_status
      → AreOneReport before now status other other_now other_status

-- the files that the words name
abbrev pub named_by : JudgingView → Option (List ℕ) → List NamedFile
named_by judging None = files_of judging
named_by judging (Some name) = going_files judging name

-- if none of them has a fault, and if one has
pub record IsOneBeginning (verifying : VerifyingView) (before now : Outside) (status : ℕ) (files : Files)
    (log : List ℕ) : Type 0 where
  pub judged : first_fault files (named_by verifying.judging verifying.state) ≡ None
      → IsOnePrefix verifying files log before now status
  pub stopped : (stop : Stop) → first_fault files (named_by verifying.judging verifying.state) ≡ Some stop
      → IsOneStop verifying files before now status

-- so it is of a run on one worker that ended with 0, 1, 3 or 5, if no read of the shelf failed
abbrev pub GivesOnePrefix : Option OrderView → Outside → Outside → ℕ → Type 0
GivesOnePrefix (Some (VerifyBy verifying)) before now status = verifying.workers ≡ 1 → HasReport status
    → NotRisen before.counts.faults now.counts.faults
    → IfTold before.files before.left (IsOneBeginning verifying before now status)
GivesOnePrefix other before now status = Unit {0}
