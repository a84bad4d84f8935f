-- Commands over a log: what is said of its batches, and which status comes. `verify`, `explain` and `ask` are such
-- commands, after their files.
use Rattle.std.specs.Prelude.{◌≡◌, ◌≢◌, ◌⊎◌, ℕ, ◌≤◌, List, [], Some}
use Rattle.std.specs.Io.KnownBytes.{IsAtEnd}
use Rattle.call_log.specs.Entry.{Entry}
use Rattle.call_log.specs.Log.{LogText, Passed, start}
use Rattle.log_run.specs.Streams.{streams}
use Rattle.log_run.specs.Words.{DoneReport, FailedReport, FrontReport, LogSays, PartReport, RunState, ShortReport}
use Rattle.log_run.specs.Words.{StoppedReport, Words, run_state}
use Rattle.stir_cmd.specs.Course.{Course}
use Rattle.stir_cmd.specs.Outside.{Outside}
use Rattle.stir_cmd.specs.Stopping.{IsQuiet}

-- If the bytes are a whole log, all of it is answered; if they aren't, they are refused; or memory ran out.
pub record AnswersBytes (passed : Passed) (before now : Outside) (status : ℕ) : Type 0 where
  pub whole : (bytes : List ℕ) (calls : List Entry) → before.left ≡ Some bytes → LogText passed bytes calls []
      → IsQuiet before now → (status ≤ 1) ⊎ (status ≡ 6)
  pub part : (bytes rest : List ℕ) (calls : List Entry) → before.left ≡ Some bytes → LogText passed bytes calls rest
      → rest ≢ [] → IsQuiet before now → (status ≡ 5) ⊎ (status ≡ 6)

-- the log and the streams, of all that is around the program
abbrev pub log_in : Outside → RunState
log_in stands = run_state stands.left (streams stands.read_faults stands.written stands.write_faults)

-- from where the log goes on, what is said of its batches, and what that means in the words of the command's subject
abbrev pub log_course_on : Passed → (Outside → Outside → Words) → (Outside → Outside → ℕ → Type 0) → Course
log_course_on passed words Subject = record {
  Came = λ before now status. LogSays (words before now) passed (log_in before) (log_in now) status;
  Done = λ before now status. DoneReport (words before now) passed (log_in before) (log_in now) status;
  Unread = λ before now. FailedReport (words before now) passed (log_in before) (log_in now)
      ⊎ StoppedReport (words before now) passed (log_in before) (log_in now);
  Unwritten = λ before now. FrontReport (words before now) passed (log_in before) (log_in now);
  Refused = λ before now. PartReport (words before now) passed (log_in before) (log_in now);
  Short = λ before now. ShortReport (words before now) passed (log_in before) (log_in now);
  Answers = AnswersBytes passed;
  Through = λ before now status. IsAtEnd now.left;
  Says = Subject;
}

-- a log by itself
abbrev pub log_course : (Outside → Outside → Words) → (Outside → Outside → ℕ → Type 0) → Course
log_course words Subject = log_course_on (start 0 0) words Subject
