-- What is known of batches of the drill that were judged and counted.
use Rattle.std.specs.Prelude.{◌≡◌, ℕ, ◌==◌, true, List, [], ◌∷◌, Option, if◌then◌else◌}
use Rattle.call_log.specs.Entry.{Entry}
use Rattle.cert_store.specs.Files.{Files as ChainFiles}
use Rattle.drill.specs.Counts.{summary_of, with_all}
use Rattle.drill.specs.declared.counts.Counts.{Counts as Counted}
use Rattle.drill.specs.declared.command.DrillCommand.{DrillCommand}
use Rattle.log_rounds.specs.Batches.{RoundsBehind, RoundsStopped}
use Rattle.log_rounds.specs.Judge.{JudgeConfig, JudgeState, Moves, RoundJudged}
use Rattle.log_rounds.specs.Rounds.{outcomes_in}
use Rattle.log_run.specs.Batch.{Batch}
use Rattle.log_run.specs.declared.stop.AnswerError.{AnswerError}
use Rattle.stir_outside.specs.Files.{Counts, Files}
use Rattle.verify_service.specs.declared.outcome.Outcome.{Outcome}

-- the batches have the calls of these, but no lines, and all is well with each
abbrev pub AreSilent : List Batch → List Batch → Type 0
AreSilent [] [] = Unit {0}
AreSilent [] (said ∷ others) = ⊥
AreSilent (batch ∷ batches) [] = ⊥
AreSilent (batch ∷ batches) (said ∷ others) =
    (batch.calls ≡ said.calls) × (batch.answer.text ≡ []) × (batch.answer.well ≡ true) × AreSilent batches others

-- the batches were judged as rounds, and what came of their calls was counted
pub record DrillBehind (first now : DrillCommand) (before counts : Counts) (told : Option Files)
    (batches : List Batch) : Type 0 where
  -- the batches, as they would be reported
  pub said : List Batch
  pub silent : AreSilent batches said
  pub judged : RoundsBehind first.verifier now.verifier before counts told said
  pub counted : now.counts ≡ with_all first.counts (outcomes_in judged.so.rounds)
  pub total : now.total ≡ first.total

-- only memory stops a run
pub record DrillStopped (first : DrillCommand) (before counts : Counts) (told : Option Files) (batches : List Batch)
    (calls : List Entry) (stop : AnswerError) : Type 0 where
  pub said : List Batch
  pub silent : AreSilent batches said
  pub stopped : RoundsStopped first.verifier before counts told said calls stop

-- the text that closes the report: the summary, if all calls of the log were counted
abbrev pub closing_text : Counted → ℕ → List ℕ
closing_text counts total = if counts.calls == total then summary_of counts else []

pub record DrillClosed (first now : DrillCommand) (before counts : Counts) (told : Option Files) (batches : List Batch)
    (text : List ℕ) : Type 0 where
  pub behind : DrillBehind first now before counts told batches
  pub text_is : text ≡ closing_text now.counts now.total

-- ---- one round

pub record OneCounted (judged : Entry → Outcome → Type 0) (config : JudgeConfig) (chains : ChainFiles)
    (before now : JudgeState) (counts counts_now : Counted) (calls : List Entry) : Type 0 where
  pub outcomes : List Outcome
  pub round : RoundJudged judged config chains before now calls outcomes
  pub moves : Moves before now calls
  pub counted : counts_now ≡ with_all counts outcomes
