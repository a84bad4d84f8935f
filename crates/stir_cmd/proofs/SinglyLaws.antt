-- What a run promises that answers calls one by one, from what it came to.
use Rattle.std.proofs.Common.{ℕ, ◌≤◌, List, Option}
use Rattle.call_log.specs.Entry.{Entry}
use Rattle.call_log.specs.Log.{start}
use Rattle.log_run.specs.Words.{LogSays}
use Rattle.single_calls.specs.Answer.{AnswerView}
use Rattle.stir_outside.proofs.CountLaws.{not_rose}
use Rattle.stir_outside.specs.Files.{Files}
use Rattle.stir_cmd.specs.Outside.{Outside}
use Rattle.stir_cmd.specs.OverLog.{log_in}
use Rattle.stir_cmd.specs.Singly.{answering_course, answering_words}
use Rattle.stir_cmd.proofs.Keeps.{Keeps}
use Rattle.stir_cmd.proofs.LogCourseLaws.{log_keeps}

pub keeps : (answered : Option Files → List Entry → Entry → AnswerView → Type 0) (stops : Option Files → List Entry → Entry → List ℕ → List ℕ → Type 0) (Says : Outside → Outside → ℕ → Type 0)
    → ((before now : Outside) (status : ℕ) → LogSays (answering_words answered stops before now) (start 0 0) (log_in before) (log_in now) status → status ≤ 1 → Says before now status)
    → Keeps (answering_course answered stops Says)
keeps answered stops Says says =
    log_keeps (answering_words answered stops) Says (λ before now still batches calls text name stopped. not_rose before.counts.faults now.counts.faults still stopped.rose) says
