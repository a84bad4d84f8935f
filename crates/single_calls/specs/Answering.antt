-- What may be answered to a call, given the calls that were answered before, and what stops a run at a call.
use Rattle.std.specs.Prelude.{⊤, ℕ, List, [], ◌∷◌, ◌++◌, string_bytes}
use Rattle.call_log.specs.Entry.{Entry}
use Rattle.stir_outside.specs.Count.{Rose}
use Rattle.single_calls.specs.Answer.{AnswerView}
use Rattle.log_run.specs.declared.stop.AnswerError.{AnswerError}
use Rattle.log_run.specs.declared.stop.AnswerError.TheVariants.{Unread, Memory}

-- after any calls that may have been answered before, this may be answered to the call
abbrev pub AnswersBehind : (List Entry → Type 0) → (List Entry → Entry → AnswerView → Type 0)
    → Entry → AnswerView → Type 0
AnswersBehind behind answered call answer = (before : List Entry) → behind before → answered before call answer

-- the call is now the last of those answered before
abbrev pub Adds : (List Entry → Type 0) → (List Entry → Type 0) → Entry → Type 0
Adds behind behind_now call = (before : List Entry) → behind before → behind_now (before ++ call ∷ [])

-- after any calls that may have been answered before, the file of this name may stop the run at the call, after these
-- lines of it
abbrev pub AnswersStop : (List Entry → Type 0) → (List Entry → Entry → List ℕ → List ℕ → Type 0) → Entry
    → List ℕ → List ℕ → Type 0
AnswersStop behind stops call text name = (before : List Entry) → behind before → stops before call text name

-- a file that may stop the run couldn't be read, and the count of failed reads rose; out of memory is free
abbrev pub StopsBy : (List Entry → Type 0) → (List Entry → Entry → List ℕ → List ℕ → Type 0) → Entry → ℕ
    → ℕ → AnswerError → Type 0
StopsBy behind stops call faults faults_now (Unread text name) =
    AnswersStop behind stops call (string_bytes text) (string_bytes name) × Rose faults faults_now
StopsBy behind stops call faults faults_now Memory = ⊤

-- each call was answered after these and those before it
abbrev pub AreAnswered : (List Entry → Entry → AnswerView → Type 0) → List Entry → List Entry → List AnswerView → Type 0
AreAnswered answered before [] [] = Unit {0}
AreAnswered answered before [] (answer ∷ answers) = ⊥
AreAnswered answered before (call ∷ calls) [] = ⊥
AreAnswered answered before (call ∷ calls) (answer ∷ answers) =
    answered before call answer × AreAnswered answered (before ++ call ∷ []) calls answers
