-- What a run of the drill over its log says of the batches.
use Rattle.std.specs.Prelude.{◌≡◌, ℕ, true, List, []}
use Rattle.call_log.specs.Entry.{Entry}
use Rattle.call_log.specs.Log.{Passed}
use Rattle.drill.specs.Counts.{no_counts, with_all}
use Rattle.drill.specs.Command.{closing_text}
use Rattle.log_rounds.specs.Judge.{JudgeConfig, OutsideCounts}
use Rattle.log_rounds.specs.Judged.{AreJudged, NoStop}
use Rattle.log_rounds.specs.Rounds.{Round, calls_in, outcomes_in}
use Rattle.log_run.specs.Batch.{Batch, all_well, calls_in as calls_of, texts_in}
use Rattle.log_run.specs.Speaks.{AreBatches}
use Rattle.log_run.specs.Words.{Words}
use Rattle.verify_service.specs.declared.outcome.Outcome.{Outcome}

-- the batches are these rounds, which were judged; nothing was written of them, and all is well with each
pub record AreCounted (judged : Entry → Outcome → Type 0) (config : JudgeConfig) (before now : OutsideCounts)
    (batches : List Batch) (rounds : List Round) : Type 0 where
  pub calls : calls_of batches ≡ calls_in rounds
  pub are_judged : AreJudged judged config before now rounds
  pub silent : texts_in batches ≡ []
  pub well : all_well batches ≡ true

pub record CountedBatches (judged : Entry → Outcome → Type 0) (config : JudgeConfig) (before now : OutsideCounts)
    (batches : List Batch) : Type 0 where
  pub rounds : List Round
  pub are : AreCounted judged config before now batches rounds

-- and the text that closes the report is the summary of their calls, if these are as many as the log has
pub record ClosesCounted (judged : Entry → Outcome → Type 0) (config : JudgeConfig) (passed : Passed)
    (before now : OutsideCounts) (total : ℕ) (batches : List Batch) (text : List ℕ) : Type 0 where
  pub rounds : List Round
  pub are : AreBatches 256 passed batches → AreCounted judged config before now batches rounds
  pub text_is : text ≡ closing_text (with_all no_counts (outcomes_in rounds)) total

abbrev pub drill_words : (Entry → Outcome → Type 0) → JudgeConfig → Passed → OutsideCounts → OutsideCounts → ℕ → Words
drill_words judged config passed before now total = record {
  most = 256;
  Known = CountedBatches judged config before now;
  Stops = NoStop;
  Closes = ClosesCounted judged config passed before now total;
}
