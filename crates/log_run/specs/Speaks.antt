-- What is known of the batches of a run, as its command says it.
use Rattle.std.specs.Prelude.{ℕ, List, string_bytes}
use Rattle.std.specs.declared.alloc.Global.{Global}
use Rattle.std.specs.declared.string.String.{String}
use Rattle.call_log.specs.Entry.{Entry}
use Rattle.call_log.specs.Log.{AreCalls, Passed}
use Rattle.log_run.specs.Batch.{Batch, IsCut, calls_in}
use Rattle.log_run.specs.Words.{Words}
use Rattle.log_run.specs.declared.stop.AnswerError.{AnswerError}
use Rattle.log_run.specs.declared.stop.AnswerError.TheVariants.{Unread}

-- the batches are cut so, and their calls may come next in the log
pub record AreBatches (most : ℕ) (passed : Passed) (batches : List Batch) : Type 0 where
  pub cut : IsCut most batches
  pub follow : AreCalls passed (calls_in batches)

-- of what may have been answered, of what stopped the run then and of what closed the report these words are true
pub record Speaks (words : Words) (passed : Passed) (Known : List Batch → Type 0)
    (Stopped : List Batch → List Entry → AnswerError → Type 0) (Closed : List Batch → List ℕ → Type 0) : Type 0 where
  pub known : (batches : List Batch) → AreBatches words.most passed batches → Known batches → words.Known batches
  pub stopped : (batches : List Batch) (calls : List Entry) (stop : AnswerError) → AreBatches words.most passed batches
      → Stopped batches calls stop → words.Known batches
  pub stops : (batches : List Batch) (calls : List Entry) (text name : String Global)
      → Stopped batches calls (Unread text name) → words.Stops batches calls (string_bytes text) (string_bytes name)
  pub closed : (batches : List Batch) (text : List ℕ) → AreBatches words.most passed batches
      → Closed batches text → words.Known batches
  pub closes : (batches : List Batch) (text : List ℕ) → Closed batches text → words.Closes batches text
