-- A run that answers the calls of a log one by one. `explain` and `ask` are such runs, after their files.
use Rattle.std.specs.Prelude.{ℕ, List, Option}
use Rattle.call_log.specs.Entry.{Entry}
use Rattle.log_run.specs.Words.{Words}
use Rattle.single_calls.specs.Answer.{AnswerView}
use Rattle.single_calls.specs.Singly.{singly_words}
use Rattle.stir_outside.specs.Files.{Files}
use Rattle.stir_cmd.specs.Course.{Course}
use Rattle.stir_cmd.specs.Outside.{Outside}
use Rattle.stir_cmd.specs.OverLog.{log_course}

-- what is said of the batches: calls that were answered one by one, with the shelf's count of failed reads
abbrev pub answering_words : (Option Files → List Entry → Entry → AnswerView → Type 0)
    → (Option Files → List Entry → Entry → List ℕ → List ℕ → Type 0) → Outside → Outside → Words
answering_words answered stops before now =
    singly_words (answered before.files) (stops before.files) before.counts.faults now.counts.faults

-- by what may be answered to a call and what may stop the run at it, over the files that a shelf tells
abbrev pub answering_course : (Option Files → List Entry → Entry → AnswerView → Type 0)
    → (Option Files → List Entry → Entry → List ℕ → List ℕ → Type 0) → (Outside → Outside → ℕ → Type 0) → Course
answering_course answered stops Subject = log_course (answering_words answered stops) Subject
