-- What a command over the calls of a log answers for. What is said of the batches before is said from any state on from
-- which they may have been answered, so that no list of calls is kept.
use Rattle.std.specs.Prelude.{ℕ, ◌+◌, ◌≤◌, List, [], ◌∷◌, ◌++◌, Option}
use Rattle.call_log.specs.Entry.{Entry}
use Rattle.call_log.specs.Log.{AreCalls, Passed, after_all}
use Rattle.stir_outside.specs.Files.{Counts, Files}
use Rattle.log_run.specs.Batch.{BatchAnswerView, Batch, batch_of}
use Rattle.log_run.specs.declared.stop.AnswerError.{AnswerError}
use Rattle.log_run.specs.declared.stop.AnswerError.TheVariants.{Memory}

-- from the one command and counts of the shelf on, these batches were answered up to the other and its counts
abbrev pub Behind : Type 0 → Type 1
Behind X = X → Counts → X → Counts → Option Files → List Batch → Type 0

-- and then the run stopped at these calls
abbrev pub Stopping : Type 0 → Type 1
Stopping X = X → Counts → X → Counts → Option Files → List Batch → List Entry → AnswerError → Type 0

-- and then this text closed the report
abbrev pub Closing : Type 0 → Type 1
Closing X = X → Counts → X → Counts → Option Files → List Batch → List ℕ → Type 0

-- the calls may come next after a place of the log that the command is at
pub record Follow (Stands : Passed → Type 0) (calls : List Entry) : Type 0 where
  pub passed : Passed
  pub stands : Stands passed
  pub follow : AreCalls passed calls
  pub room : passed.number ≤ 4000000000 + passed.count

-- and after these calls it is at the place after them
abbrev pub StandsOn : (Passed → Type 0) → (Passed → Type 0) → List Entry → Type 0
StandsOn stands stands_now calls = (passed : Passed) → stands passed → AreCalls passed calls
    → stands_now (after_all passed calls)

-- one batch more was answered
abbrev pub Adds : {X : Type 0} → Behind X → X → X → Counts → Counts → Option Files → List Entry
    → BatchAnswerView → Type 0
Adds {X} behind one other counts counts_now files calls answer = (first : X) (before : Counts) (batches : List Batch)
    → behind first before one counts files batches
    → behind first before other counts_now files (batches ++ batch_of calls answer ∷ [])

-- the run stopped there
abbrev pub Stops : {X : Type 0} → Behind X → Stopping X → X → X → Counts → Counts → Option Files
    → List Entry → AnswerError → Type 0
Stops {X} behind stopped one other counts counts_now files calls stop =
    (first : X) (before : Counts) (batches : List Batch) → behind first before one counts files batches
    → stopped first before other counts_now files batches calls stop

-- the report was closed
abbrev pub Closes : {X : Type 0} → Behind X → Closing X → X → X → List ℕ → Type 0
Closes {X} behind closed one other text =
    (first : X) (before counts : Counts) (files : Option Files) (batches : List Batch)
    → behind first before one counts files batches → closed first before other counts files batches text

-- memory ran out for that, and the run stopped at no calls
abbrev pub IsShort : {X : Type 0} → Behind X → Stopping X → X → X → Type 0
IsShort {X} behind stopped one other =
    (first : X) (before counts : Counts) (files : Option Files) (batches : List Batch)
    → behind first before one counts files batches → stopped first before other counts files batches [] Memory

-- it holds from any state on from which the command may have come here
abbrev pub From : {X : Type 0} → Behind X → X → Counts → Option Files → (X → Counts → List Batch → Type 0) → Type 0
From {X} behind one counts files P = (first : X) (before : Counts) (batches : List Batch)
    → behind first before one counts files batches → P first before batches
