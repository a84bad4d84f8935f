-- What a run that answers calls one by one came to, from what its steps came to.
use Rattle.std.proofs.Common.{◌≡◌, ℕ, List, Option, subst}
use Rattle.call_log.specs.Entry.{Entry}
use Rattle.call_log.specs.Log.{start}
use Rattle.log_run.specs.Words.{LogSays, RunState}
use Rattle.single_calls.specs.Answer.{AnswerView}
use Rattle.single_calls.specs.Singly.{singly_words}
use Rattle.stir_outside.specs.Files.{Files}

-- what is said of a run by what answers is said by what it is made of
pub as_viewed : {V : Type 0} (Answered : V → Option Files → List Entry → Entry → AnswerView → Type 0) (Stops : V → Option Files → List Entry → Entry → List ℕ → List ℕ → Type 0) (one two : V) (files : Option Files) (faults faults_now : ℕ)
    (before now : RunState) (status : ℕ) → one ≡ two → LogSays (singly_words (Answered one files) (Stops one files) faults faults_now) (start 0 0) before now status
    → LogSays (singly_words (Answered two files) (Stops two files) faults faults_now) (start 0 0) before now status
as_viewed {V} Answered Stops one two files faults faults_now before now status same says = subst (λ (x : V). LogSays (singly_words (Answered x files) (Stops x files) faults faults_now) (start 0 0) before now status) same says
