-- What is known of batches of one call that were answered one by one.
use Rattle.std.specs.Prelude.{◌≡◌, ⊤, ℕ, ◌≤◌, List, [], ◌∷◌, string_bytes}
use Rattle.call_log.specs.Entry.{Entry}
use Rattle.log_run.specs.Batch.{Batch, BatchAnswerView, calls_in, texts_in}
use Rattle.log_run.specs.Batch.{all_well as batches_well}
use Rattle.log_run.specs.Words.{Words}
use Rattle.log_run.specs.declared.stop.AnswerError.{AnswerError}
use Rattle.log_run.specs.declared.stop.AnswerError.TheVariants.{Unread, Memory}
use Rattle.stir_outside.specs.Count.{AtMost, Rose}
use Rattle.single_calls.specs.Answer.{AnswerView, all_well, texts_of, unread_in, unread_lines, written_of}
use Rattle.single_calls.specs.Answering.{Adds, AnswersBehind, AreAnswered}

-- each call was answered after those before it, and these are the lines
pub record AnsweredSingly (answered : List Entry → Entry → AnswerView → Type 0) (faults faults_now : ℕ)
    (batches : List Batch) : Type 0 where
  pub answers : List AnswerView
  pub each : AreAnswered answered [] (calls_in batches) answers
  pub texts : texts_in batches ≡ texts_of answers
  pub well : batches_well batches ≡ all_well answers
  pub unread : AtMost (unread_in answers) faults faults_now
  pub stay : faults ≤ faults_now

-- the run was stopped at a call
pub record StopsAtOne (stops : List Entry → Entry → List ℕ → List ℕ → Type 0) (before : List Entry)
    (faults faults_now : ℕ) (calls : List Entry) (text name : List ℕ) : Type 0 where
  pub call : Entry
  pub one : calls ≡ call ∷ []
  pub may : stops before call text name
  pub rose : Rose faults faults_now

abbrev pub StopsSo : (List Entry → Entry → List ℕ → List ℕ → Type 0) → List Entry → ℕ → ℕ
    → List Entry → AnswerError → Type 0
StopsSo stops before faults faults_now calls (Unread text name) =
    StopsAtOne stops before faults faults_now calls (string_bytes text) (string_bytes name)
StopsSo stops before faults faults_now calls Memory = ⊤

pub record SinglyStopped (answered : List Entry → Entry → AnswerView → Type 0)
    (stops : List Entry → Entry → List ℕ → List ℕ → Type 0) (faults faults_now : ℕ) (batches : List Batch)
    (calls : List Entry) (stop : AnswerError) : Type 0 where
  pub so : AnsweredSingly answered faults faults_now batches
  pub stopped : StopsSo stops (calls_in batches) faults faults_now calls stop

-- nothing closes the report
pub record SinglyClosed (answered : List Entry → Entry → AnswerView → Type 0) (faults faults_now : ℕ)
    (batches : List Batch) (text : List ℕ) : Type 0 where
  pub so : AnsweredSingly answered faults faults_now batches
  pub none : text ≡ []

-- ---- one call

-- This was written of it, which is now the last of the calls before; and a line `unread` comes only of a read that
-- failed.
pub record OneAnswer (behind behind_now : List Entry → Type 0) (answered : List Entry → Entry → AnswerView → Type 0)
    (faults faults_now : ℕ) (call : Entry) (written : BatchAnswerView) : Type 0 where
  pub answer : AnswerView
  pub is : written ≡ written_of answer
  pub may : AnswersBehind behind answered call answer
  pub adds : Adds behind behind_now call
  pub unread : AtMost (unread_lines answer) faults faults_now

-- ---- in words

-- At these calls, which are one, a file of certificates may stop the run, and the file couldn't be read.
abbrev pub StopsAfter : (List Entry → Entry → List ℕ → List ℕ → Type 0) → ℕ → ℕ → List Batch → List Entry
    → List ℕ → List ℕ → Type 0
StopsAfter stops faults faults_now batches calls text name =
    StopsAtOne stops (calls_in batches) faults faults_now calls text name

-- nothing closes the report
abbrev pub ClosesNothing : List Batch → List ℕ → Type 0
ClosesNothing batches text = text ≡ []

-- what is said of calls that were answered one by one
abbrev pub singly_words : (List Entry → Entry → AnswerView → Type 0)
    → (List Entry → Entry → List ℕ → List ℕ → Type 0) → ℕ → ℕ → Words
singly_words answered stops faults faults_now = record {
  most = 1;
  Known = AnsweredSingly answered faults faults_now;
  Stops = StopsAfter stops faults faults_now;
  Closes = ClosesNothing;
}
