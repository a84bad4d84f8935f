-- What a run promises for the words of `verify` if shelf and input are told: each call gets the code of the first rule
-- that it breaks, and a call that breaks none is valid, save that each last PASSporT lets exactly one such call pass.
use Rattle.std.specs.Prelude.{◌≡◌, ℕ, ◌+◌, ◌≤◌, List, [], ◌++◌, Option, Some, None}
use Rattle.std.specs.Io.KnownBytes.{Appends}
use Rattle.call_log.specs.Log.{LogText, start}
use Rattle.log_run.specs.Ending.{report_status}
use Rattle.log_rounds.specs.Handed.{IsHanded}
use Rattle.log_rounds.specs.Rounds.{AllInOrder, FirstWinsIn, InEach, IsApart, IsCut, Legal, Round, calls_in}
use Rattle.log_rounds.specs.Rounds.{outcomes_in, row_rounds, unread_pairs}
use Rattle.log_rounds.specs.AllValid.{all_valid}
use Rattle.log_rounds.specs.Answers.{Answers}
use Rattle.replay_law.specs.Held.{Held}
use Rattle.replay_law.specs.Round.{Rounds}
use Rattle.state_text.specs.State.{StateView}
use Rattle.state_text.specs.StateText.{state_text}
use Rattle.stir_files.specs.Going.{GoingOf}
use Rattle.stir_files.specs.Materials.{MaterialsOf}
use Rattle.stir_files.specs.declared.going.GoingMaterials.{GoingMaterials}
use Rattle.stir_files.specs.declared.materials.Materials.{Materials}
use Rattle.stir_outside.specs.Count.{AtMost, NotRisen}
use Rattle.stir_outside.specs.Files.{Files}
use Rattle.stir_words.specs.Order.{OrderView, VerifyBy, VerifyingView}
use Rattle.verify_rules.specs.declared.settings.Settings.{Settings}
use Rattle.verify_service.specs.Causes.{NoneUnasked, NoneUnread}
use Rattle.verify_service.specs.Handing.{kept_by}
use Rattle.verify_service.specs.Report.{report}
use Rattle.verify_service.specs.Rows.{IsOwed}
use Rattle.stir_cmd.specs.Outside.{IfTold, Outside}
use Rattle.stir_cmd.specs.Calls.{config_by, settings_by, world_by}
use Rattle.stir_cmd.specs.Verifying.{start_at}

-- Rounds of 256 calls, but the last, judged by what the files say: each call is answered by the first rule that it
-- breaks. If no two signing inputs of last PASSporTs have one digest, the outcomes are legal: of the calls that break
-- no rule and have one last PASSporT exactly one is valid, which with one worker is the first, and each other is a
-- replay of it. Calls are set aside for certificates alone: at most as often, counting pairs of a round and an x5u
-- text, as the shelf's failed reads rose, and not at all if they didn't.
pub record AreJudged (settings : Settings) (workers : ℕ) (materials : Materials) (files : Files) (before now : Outside)
    (rounds : List Round) : Type 0 where
  pub cut : IsCut rounds
  pub each : InEach (Answers (world_by materials files) settings) rounds
  pub legal : IsApart (config_by settings workers) (calls_in rounds)
      → Legal (Answers (world_by materials files) settings) (config_by settings workers) rounds
  pub first_wins : workers ≡ 1 → IsApart (config_by settings workers) (calls_in rounds)
      → FirstWinsIn (config_by settings workers) rounds
  pub unread : AtMost (unread_pairs (config_by settings workers) rounds) before.counts.faults now.counts.faults
  pub quiet : NotRisen before.counts.faults now.counts.faults → NoneUnread (outcomes_in rounds)
  pub answered : NoneUnasked (outcomes_in rounds)

-- The named files are in their grammars; the bytes are a whole log; its calls were judged by what the files say; their
-- report was written, and nothing else; and the status says whether all are valid.
pub record Verified (verifying : VerifyingView) (files : Files) (bytes : List ℕ) (before now : Outside)
    (status : ℕ) : Type 0 where
  pub materials : Materials
  pub stands : MaterialsOf (Some files) verifying.judging materials
  pub rounds : List Round
  pub log : LogText (start 0 0) bytes (calls_in rounds) []
  pub judged : AreJudged (settings_by verifying.judging.settings) verifying.workers materials files before now rounds
  pub reported : Appends before.written now.written (report 1 (outcomes_in rounds))
  pub said : status ≡ report_status (all_valid (outcomes_in rounds))

-- ---- from a state on

-- Rounds of 256 calls, but the last, judged by what the files say, in turn over what was kept before them, of which
-- `next` is left: of the calls of a round that break no rule and have one last PASSporT that isn't kept, exactly one is
-- valid, which with one worker is the first of the round; each other, and each one whose PASSporT is kept, is a replay.
-- Each call that passes is fresh, and known again by what was signed. Calls are set aside as above.
pub record AreJudgedOn (settings : Settings) (workers : ℕ) (materials : Materials) (files : Files) (past : Held)
    (before now : Outside) (rounds : List Round) (next : Held) : Type 0 where
  pub cut : IsCut rounds
  pub each : InEach (Answers (world_by materials files) settings) rounds
  pub owed : InEach (IsOwed settings) rounds
  pub settled : Rounds past (row_rounds (config_by settings workers) rounds) next
  pub in_order : workers ≡ 1 → AllInOrder (config_by settings workers) rounds
  pub unread : AtMost (unread_pairs (config_by settings workers) rounds) before.counts.faults now.counts.faults
  pub quiet : NotRisen before.counts.faults now.counts.faults → NoneUnread (outcomes_in rounds)
  pub answered : NoneUnasked (outcomes_in rounds)

-- The named files are in their grammars, and the state's window is that of the words; the bytes are a whole log from
-- the state's last call on; its calls were judged by what the files say, over what the state keeps. Their report was
-- written, with numbers from that of the state's call plus 1 on, and then the text of the state that is handed on, and
-- nothing else; and the status says whether all are valid.
pub record VerifiedOn (verifying : VerifyingView) (name : List ℕ) (files : Files) (bytes : List ℕ)
    (before now : Outside) (status : ℕ) : Type 0 where
  pub materials : GoingMaterials
  pub stands : GoingOf (Some files) verifying.judging name materials
  pub rounds : List Round
  pub log : LogText (start_at materials.state) bytes (calls_in rounds) []
  pub next : Held
  pub judged : AreJudgedOn (settings_by verifying.judging.settings) verifying.workers materials.judging files
      (kept_by materials.state.kept) before now rounds next
  pub state : StateView
  pub handed : IsHanded (config_by (settings_by verifying.judging.settings) verifying.workers)
      (start_at materials.state) (calls_in rounds) next state
  pub reported : Appends before.written now.written
      (report (materials.state.call + 1) (outcomes_in rounds) ++ state_text state)
  pub said : status ≡ report_status (all_valid (outcomes_in rounds))

-- ---- the whole

abbrev pub VerifiedFrom : VerifyingView → Option (List ℕ) → Outside → Outside → ℕ → Files → List ℕ → Type 0
VerifiedFrom verifying None before now status files bytes = Verified verifying files bytes before now status
VerifiedFrom verifying (Some name) before now status files bytes =
    VerifiedOn verifying name files bytes before now status

abbrev pub Headline : Option OrderView → Outside → Outside → ℕ → Type 0
Headline (Some (VerifyBy verifying)) before now status = status ≤ 1
    → IfTold before.files before.left (VerifiedFrom verifying verifying.state before now status)
Headline other before now status = Unit {0}
