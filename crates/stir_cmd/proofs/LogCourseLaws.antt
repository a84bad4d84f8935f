-- What a command over a log promises, from what it came to.
use Rattle.std.proofs.Common.{ℕ, ◌≤◌, List}
use Rattle.call_log.specs.Entry.{Entry}
use Rattle.call_log.specs.Log.{Passed, start}
use Rattle.log_run.specs.Batch.{Batch}
use Rattle.log_run.specs.Words.{LogSays, Words}
use Rattle.stir_outside.specs.Count.{NotRisen}
use Rattle.stir_cmd.specs.Outside.{Outside}
use Rattle.stir_cmd.specs.OverLog.{log_course, log_course_on, log_in}
use Rattle.stir_cmd.proofs.Keeps.{Keeps}

-- a file stops the run only if a read of the shelf failed
abbrev pub StopsOnlyForFaults : (Outside → Outside → Words) → Type 0
StopsOnlyForFaults words = (before now : Outside) → NotRisen before.counts.faults now.counts.faults → (batches : List Batch) (calls : List Entry) (text name : List ℕ) → (words before now).Stops batches calls text name → ⊥

pub log_keeps_on : (passed : Passed) (words : Outside → Outside → Words) (Says : Outside → Outside → ℕ → Type 0) → StopsOnlyForFaults words
    → ((before now : Outside) (status : ℕ) → LogSays (words before now) passed (log_in before) (log_in now) status → status ≤ 1 → Says before now status) → Keeps (log_course_on passed words Says)
log_keeps_on passed words Says stops says = record {
  causes = λ before now status ran. record { known = ran.known; done = ran.done; words = λ h. ran.no_words h; read = ran.fails; write = ran.sink_failed; input = ran.refuses; memory = ran.short };
  answers = λ before now status ran. record {
    whole = λ bytes calls left log q. ran.answers_whole bytes calls left log q.read_faults q.write_faults (stops before now q.files);
    part = λ bytes rest calls left log some q. ran.answers_faulty bytes rest calls left log some q.read_faults q.write_faults (stops before now q.files);
  };
  through = λ before now status ran low. ran.ended low;
  says = says;
}

pub log_keeps : (words : Outside → Outside → Words) (Says : Outside → Outside → ℕ → Type 0) → StopsOnlyForFaults words
    → ((before now : Outside) (status : ℕ) → LogSays (words before now) (start 0 0) (log_in before) (log_in now) status → status ≤ 1 → Says before now status) → Keeps (log_course words Says)
log_keeps words Says stops says = log_keeps_on (start 0 0) words Says stops says
