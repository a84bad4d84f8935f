-- Rounds of a log that were judged, and what a run over them says.
use Rattle.std.specs.Prelude.{◌≡◌, ℕ, ◌+◌, ◌≤◌, List, []}
use Rattle.call_log.specs.Entry.{Entry}
use Rattle.call_log.specs.Log.{Passed}
use Rattle.cert_store.specs.Files.{Files as ChainFiles}
use Rattle.log_run.specs.Batch.{Batch, all_well, calls_in as calls_of, texts_in}
use Rattle.log_run.specs.Words.{Words}
use Rattle.log_rounds.specs.AllValid.{all_valid}
use Rattle.log_rounds.specs.Judge.{JudgeConfig, OutsideCounts, JudgeState}
use Rattle.log_rounds.specs.Reads.{ReadsNamed}
use Rattle.log_rounds.specs.Rounds.{AllInOrder, FirstWinsIn, InEach, IsApart, IsCut, Legal, Round, calls_in}
use Rattle.log_rounds.specs.Rounds.{outcomes_in, row_rounds, unread_pairs}
use Rattle.replay_law.specs.Held.{Held, nothing}
use Rattle.replay_law.specs.Round.{Rounds}
use Rattle.stir_outside.specs.Count.{AtMost, NotRisen}
use Rattle.verify_service.specs.Causes.{NoneUnasked, NoneUnread}
use Rattle.verify_service.specs.Report.{report}
use Rattle.verify_service.specs.Rows.{IsOwed}
use Rattle.verify_service.specs.declared.outcome.Outcome.{Outcome}

-- the judge has judged no call, and holds no chain
pub record StandsAtFirst (state : JudgeState) : Type 0 where
  pub past : state.past ≡ nothing
  pub held : state.held ≡ []
  pub number : state.number ≡ 0
  pub moment : state.moment ≡ 0

-- Calls were set aside only for faults that were counted: for certificates, at most as many pairs of a round and a text
-- as the count of failed reads rose by, unless it is at its last value.
pub record SetAside (config : JudgeConfig) (before now : OutsideCounts) (rounds : List Round) : Type 0 where
  pub unread : AtMost (unread_pairs config rounds) before.shelf now.shelf
  pub quiet_shelf : NotRisen before.shelf now.shelf → NoneUnread (outcomes_in rounds)
  pub quiet_provider : NotRisen before.provider now.provider → NoneUnasked (outcomes_in rounds)

-- Rounds of 256 calls, but the last, and each outcome may be given to its call. If the log is apart, the outcomes are
-- legal, and on one worker the first call that passes with a ticket is the valid one. Calls were set aside only for
-- faults that were counted.
pub record AreJudged (judged : Entry → Outcome → Type 0) (config : JudgeConfig) (before now : OutsideCounts)
    (rounds : List Round) : Type 0 where
  pub cut : IsCut rounds
  pub each : InEach judged rounds
  pub legal : IsApart config (calls_in rounds) → Legal judged config rounds
  pub first_wins : config.workers ≡ 1 → IsApart config (calls_in rounds) → FirstWinsIn config rounds
  pub aside : SetAside config before now rounds

-- ---- in words

-- Each call that passes is known again by what was signed, and fresh; each round was settled over what the one before
-- it left, the first over nothing; and one worker took the calls of a round in their order.
pub record AreSettled (config : JudgeConfig) (rounds : List Round) : Type 0 where
  pub owed : InEach (IsOwed config.settings) rounds
  pub past : Held
  pub settled : Rounds nothing (row_rounds config rounds) past
  pub in_order : config.workers ≡ 1 → AllInOrder config rounds

-- The batches are rounds that were judged; their lines are the report of these, whose numbers go on from those before;
-- and all is well exactly if each call is valid. No count of faults fell.
pub record JudgedBatches (judged : Entry → Outcome → Type 0) (config : JudgeConfig) (passed : Passed)
    (before now : OutsideCounts) (batches : List Batch) : Type 0 where
  pub rounds : List Round
  pub calls : calls_of batches ≡ calls_in rounds
  pub lines : texts_in batches ≡ report (passed.number + 1) (outcomes_in rounds)
  pub well : all_well batches ≡ all_valid (outcomes_in rounds)
  pub are_judged : AreJudged judged config before now rounds
  pub are_settled : AreSettled config rounds
  pub shelf_stays : before.shelf ≤ now.shelf
  pub provider_stays : before.provider ≤ now.provider

-- no file stops the run
abbrev pub NoStop : List Batch → List Entry → List ℕ → List ℕ → Type 0
NoStop batches calls text name = ⊥

-- No text closes the report. Let the provider of signatures never fail, and let the calls name at most 4,096 different
-- x5u texts for which a file is listed. Then files were read at most as often as there are such texts.
pub record ClosesRounds (config : JudgeConfig) (chains : ChainFiles) (before now : OutsideCounts) (batches : List Batch)
    (text : List ℕ) : Type 0 where
  pub none : text ≡ []
  pub few_reads : NotRisen before.provider now.provider
      → ReadsNamed config.settings chains (calls_of batches) before.reads now.reads

-- what is said of a log that was judged in rounds of 256, from this place of it on
abbrev pub rounds_words : (Entry → Outcome → Type 0) → JudgeConfig → ChainFiles → Passed
    → OutsideCounts → OutsideCounts → Words
rounds_words judged config chains passed before now = record {
  most = 256;
  Known = JudgedBatches judged config passed before now;
  Stops = NoStop;
  Closes = ClosesRounds config chains before now;
}
