-- What is known of batches that were judged as rounds.
use Rattle.std.specs.Prelude.{◌≡◌, ℕ, ◌+◌, ◌≤◌, List, [], ◌∷◌, length, Option}
use Rattle.call_log.specs.Entry.{Entry}
use Rattle.call_log.specs.Log.{Passed}
use Rattle.cert_store.specs.Files.{Files as ChainFiles}
use Rattle.log_run.specs.Batch.{BatchAnswerView, Batch}
use Rattle.log_run.specs.Words.{Words}
use Rattle.log_rounds.specs.AllValid.{all_valid}
use Rattle.log_rounds.specs.Judge.{JudgeConfig, JudgeState, Moves, RoundJudged, counts_of, outside_counts}
use Rattle.log_rounds.specs.Judged.{SetAside, rounds_words}
use Rattle.log_rounds.specs.Verifier.{AnswersBy, JudgeBasis, TrustsHeld, basis_of, config_of, state_of}
use Rattle.log_rounds.specs.declared.verifier.LogVerifier.{LogVerifier}
use Rattle.log_rounds.specs.Rounds.{AllInOrder, InEach, Round, calls_in, row_rounds}
use Rattle.log_run.specs.declared.stop.AnswerError.{AnswerError}
use Rattle.log_run.specs.declared.stop.AnswerError.TheVariants.{Memory}
use Rattle.replay_law.specs.Round.{Rounds}
use Rattle.stir_outside.specs.Count.{NotRisen}
use Rattle.stir_outside.specs.Files.{Counts, Files}
use Rattle.verify_service.specs.Needed.{named, round_texts}
use Rattle.verify_service.specs.Reads.{ReadsFew}
use Rattle.verify_service.specs.Report.{report}
use Rattle.verify_service.specs.Rows.{IsOwed}
use Rattle.verify_service.specs.declared.outcome.Outcome.{Outcome}

abbrev pub first_number : List Entry → ℕ
first_number [] = 0
first_number (call ∷ others) = call.number

-- the batches are these rounds, each with its lines
abbrev pub AreRounds : List Batch → List Round → Type 0
AreRounds [] [] = Unit {0}
AreRounds [] (round ∷ rounds) = ⊥
AreRounds (batch ∷ batches) [] = ⊥
AreRounds (batch ∷ batches) (round ∷ rounds) =
    (batch.calls ≡ round.calls) × (batch.answer.text ≡ report (first_number round.calls) round.outcomes)
    × (batch.answer.well ≡ all_valid round.outcomes) × AreRounds batches rounds

-- each round was judged over what the one before it left
pub record JudgedRounds (judged : Entry → Outcome → Type 0) (config : JudgeConfig) (chains : ChainFiles)
    (before now : JudgeState) (batches : List Batch) : Type 0 where
  pub rounds : List Round
  pub are : AreRounds batches rounds
  pub each : InEach judged rounds
  pub owed : InEach (IsOwed config.settings) rounds
  pub settled : Rounds before.past (row_rounds config rounds) now.past
  pub in_order : config.workers ≡ 1 → AllInOrder config rounds
  pub aside : SetAside config (counts_of before) (counts_of now) rounds
  pub few_reads : NotRisen before.provider now.provider
      → ReadsFew config.settings chains (calls_in rounds) before.held now.held before.reads now.reads
  pub shelf_stays : before.shelf ≤ now.shelf
  pub provider_stays : before.provider ≤ now.provider

-- the rounds that a verifier judged, from this state on up to that
abbrev pub JudgedFrom : LogVerifier → LogVerifier → Counts → Counts → Option Files → List Batch → Type 0
JudgedFrom verifier now before counts told batches = JudgedRounds (AnswersBy (basis_of verifier) told)
    (config_of (basis_of verifier)) verifier.service.chains (state_of verifier before) (state_of now counts) batches

-- and by what it judges is the same
pub record RoundsBehind (verifier now : LogVerifier) (before counts : Counts) (told : Option Files)
    (batches : List Batch) : Type 0 where
  pub so : JudgedFrom verifier now before counts told batches
  pub same : basis_of now ≡ basis_of verifier

-- Only memory stops a run. More may have been counted since; and of the chains of the calls at which it stopped, each
-- that wasn't held was read once at most.
pub record RoundsStopped (verifier : LogVerifier) (before counts : Counts) (told : Option Files) (batches : List Batch)
    (calls : List Entry) (stop : AnswerError) : Type 0 where
  pub memory : stop ≡ Memory
  pub mid : LogVerifier
  pub counted : Counts
  pub so : JudgedFrom verifier mid before counted told batches
  pub shelf_stays : counted.faults ≤ counts.faults
  pub reads : counts.reads ≤ counted.reads
      + length (round_texts verifier.service.chains mid.service.held.entries (named verifier.service.settings calls))

pub record RoundsClosed (verifier now : LogVerifier) (before counts : Counts) (told : Option Files)
    (batches : List Batch) (text : List ℕ) : Type 0 where
  pub so : JudgedFrom verifier now before counts told batches
  pub none : text ≡ []

-- the verifier is at this place of the log, and what it holds of chains is right
pub record RoundsStand (verifier : LogVerifier) (told : Option Files) (passed : Passed) : Type 0 where
  pub number : verifier.service.number ≡ passed.number
  pub moment : verifier.service.moment ≡ passed.moment
  pub trusts : TrustsHeld verifier told

-- ---- one round

pub record OneRound (judged : Entry → Outcome → Type 0) (config : JudgeConfig) (chains : ChainFiles)
    (before now : JudgeState) (calls : List Entry) (answer : BatchAnswerView) : Type 0 where
  pub outcomes : List Outcome
  pub round : RoundJudged judged config chains before now calls outcomes
  pub moves : Moves before now calls
  pub text : answer.text ≡ report (first_number calls) outcomes
  pub well : answer.well ≡ all_valid outcomes

-- ---- in words

-- what is said of a log that a verifier judges by this, from this place of it on, with the shelf's counts; the provider
-- never fails
abbrev pub words_by : JudgeBasis → Option Files → Passed → Counts → Counts → Words
words_by basis told passed before now = rounds_words (AnswersBy basis told) (config_of basis) basis.materials.chains
    passed (outside_counts before.faults 0 before.reads) (outside_counts now.faults 0 now.reads)
