-- A log that goes on from a state: its rounds, and the state that is handed on after them (this project's own rule).
use Rattle.std.specs.Prelude.{◌≡◌, ℕ, ◌+◌, ◌≤◌, List, [], ◌++◌, Option}
use Rattle.call_log.specs.Entry.{Entry}
use Rattle.call_log.specs.Log.{Passed}
use Rattle.cert_store.specs.Files.{Files as ChainFiles}
use Rattle.log_run.specs.Batch.{Batch, all_well, calls_in as calls_of, texts_in}
use Rattle.log_run.specs.Speaks.{AreBatches}
use Rattle.log_run.specs.Words.{Words}
use Rattle.log_rounds.specs.AllValid.{all_valid}
use Rattle.log_rounds.specs.Batches.{RoundsBehind}
use Rattle.log_rounds.specs.Judge.{JudgeConfig, JudgeState, OutsideCounts, outside_counts}
use Rattle.log_rounds.specs.Judged.{NoStop, SetAside}
use Rattle.log_rounds.specs.Reads.{ReadsNamed}
use Rattle.log_rounds.specs.Rounds.{AllInOrder, InEach, IsCut, Round, calls_in, outcomes_in, row_rounds}
use Rattle.log_rounds.specs.Verifier.{AnswersBy, JudgeBasis, config_of}
use Rattle.log_rounds.specs.declared.verifier.LogVerifier.{LogVerifier}
use Rattle.replay_law.specs.Held.{Held, Same, purged}
use Rattle.replay_law.specs.Round.{Rounds}
use Rattle.state_text.specs.State.{IsState, StateView}
use Rattle.state_text.specs.StateText.{StateFile, state_text}
use Rattle.stir_outside.specs.Count.{NotRisen}
use Rattle.stir_outside.specs.Files.{Counts, Files}
use Rattle.verify_service.specs.Handing.{IsStateOf, kept_by}
use Rattle.verify_service.specs.Report.{report}
use Rattle.verify_service.specs.Rows.{IsOwed}
use Rattle.verify_service.specs.Service.{last_moment_of, last_number}
use Rattle.verify_service.specs.declared.outcome.Outcome.{Outcome}

-- the judge goes on from a call of this number and this moment, and holds no chain
pub record GoesOnFrom (number moment : ℕ) (state : JudgeState) : Type 0 where
  pub held : state.held ≡ []
  pub number_is : state.number ≡ number
  pub moment_is : state.moment ≡ moment

-- The batches are these rounds of 256 calls, but the last, and their lines are the report of these, whose numbers go on
-- from those before; each outcome may be given to its call, and each call that passes is known again by what was
-- signed, and fresh. The rounds were settled in turn over what was kept before, of which `next` is left; one worker
-- took the calls of a round in their order; and calls were set aside only for faults that were counted.
pub record JudgedOn (judged : Entry → Outcome → Type 0) (config : JudgeConfig) (past : Held) (passed : Passed)
    (before now : OutsideCounts) (batches : List Batch) (rounds : List Round) (next : Held) : Type 0 where
  pub calls : calls_of batches ≡ calls_in rounds
  pub lines : texts_in batches ≡ report (passed.number + 1) (outcomes_in rounds)
  pub well : all_well batches ≡ all_valid (outcomes_in rounds)
  pub cut : IsCut rounds
  pub each : InEach judged rounds
  pub owed : InEach (IsOwed config.settings) rounds
  pub settled : Rounds past (row_rounds config rounds) next
  pub in_order : config.workers ≡ 1 → AllInOrder config rounds
  pub aside : SetAside config before now rounds
  pub shelf_stays : before.shelf ≤ now.shelf
  pub provider_stays : before.provider ≤ now.provider

-- the same, whichever the rounds are
pub record HasJudgedOn (judged : Entry → Outcome → Type 0) (config : JudgeConfig) (past : Held) (passed : Passed)
    (before now : OutsideCounts) (batches : List Batch) : Type 0 where
  pub rounds : List Round
  pub next : Held
  pub on : JudgedOn judged config past passed before now batches rounds next

-- The state of a run after these calls, of which `next` is left: by what window it judged; the number and the moment of
-- the last call, or those from which it went on if there is none; and what a purge by that moment leaves, in rising
-- order of tickets.
pub record IsHanded (config : JudgeConfig) (passed : Passed) (calls : List Entry) (next : Held)
    (state : StateView) : Type 0 where
  pub rules : IsState state
  pub window : state.window ≡ config.settings.past
  pub call : state.call ≡ last_number passed.number calls
  pub moment : state.moment ≡ last_moment_of passed.moment calls
  pub kept : Same (purged state.moment next) (kept_by state.kept)

-- The text of that state closes the report; and of the files read as without a state.
pub record ClosesState (judged : Entry → Outcome → Type 0) (config : JudgeConfig) (chains : ChainFiles) (past : Held)
    (passed : Passed) (before now : OutsideCounts) (batches : List Batch) (text : List ℕ) : Type 0 where
  pub rounds : List Round
  pub next : Held
  pub on : AreBatches 256 passed batches → JudgedOn judged config past passed before now batches rounds next
  pub state : StateView
  pub handed : IsHanded config passed (calls_of batches) next state
  pub text_is : text ≡ state_text state
  pub few_reads : NotRisen before.provider now.provider
      → ReadsNamed config.settings chains (calls_of batches) before.reads now.reads

-- what is said of a log that a verifier judges by this, over what was kept before and from this place of it on, with
-- the shelf's counts; the provider never fails
abbrev pub words_on : JudgeBasis → Option Files → Held → Passed → Counts → Counts → Words
words_on basis told past passed before now = record {
  most = 256;
  Known = HasJudgedOn (AnswersBy basis told) (config_of basis) past passed (outside_counts before.faults 0 before.reads)
      (outside_counts now.faults 0 now.reads);
  Stops = NoStop;
  Closes = ClosesState (AnswersBy basis told) (config_of basis) basis.materials.chains past passed
      (outside_counts before.faults 0 before.reads) (outside_counts now.faults 0 now.reads);
}

-- The report, with the text of a state after it, is a file that holds this state, whatever comes after that: so the
-- whole output of a run may be handed to the next.
abbrev pub OutputIsState : Type 0
OutputIsState = (number window : ℕ) (outcomes : List Outcome) (state : StateView) (behind : List ℕ) → IsState state
    → state.call ≤ 4000000000 → StateFile window (report number outcomes ++ (state_text state ++ behind)) state

-- ---- what the loop knows of them

-- the rounds were judged, and the verifier's last call is that of the batches
pub record HandsBehind (verifier now : LogVerifier) (before counts : Counts) (told : Option Files)
    (batches : List Batch) : Type 0 where
  pub behind : RoundsBehind verifier now before counts told batches
  pub number : now.service.number ≡ last_number verifier.service.number (calls_of batches)
  pub moment : now.service.moment ≡ last_moment_of verifier.service.moment (calls_of batches)

-- the rounds were judged up to a verifier of whose service this is the state, and this its text
pub record StateClosed (verifier now : LogVerifier) (before counts : Counts) (told : Option Files)
    (batches : List Batch) (text : List ℕ) : Type 0 where
  pub mid : LogVerifier
  pub behind : HandsBehind verifier mid before counts told batches
  pub state : StateView
  pub rules : IsState state
  pub state_is : IsStateOf mid.service state
  pub text_is : text ≡ state_text state
