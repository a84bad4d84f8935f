-- By what a verifier judges the calls of a log, and its state from round to round.
use Rattle.std.specs.Prelude.{⊤, ℕ, Option, Some, None}
use Rattle.call_log.specs.Entry.{Entry}
use Rattle.cert_store.specs.declared.world.World.{World as Materials}
use Rattle.log_rounds.specs.Answers.{Answers}
use Rattle.log_rounds.specs.Judge.{JudgeConfig, JudgeState}
use Rattle.log_rounds.specs.declared.verifier.LogVerifier.{LogVerifier}
use Rattle.stir_outside.specs.Files.{Counts, Files}
use Rattle.stir_outside.specs.Held.{Held, held_says}
use Rattle.verify_rules.specs.declared.settings.Settings.{Settings}
use Rattle.call_judging.specs.Chains.{world_by}
use Rattle.verify_service.specs.Rows.{held}
use Rattle.verify_service.specs.Service.{HoldsRight, ServiceView, held_texts, materials_of}
use Rattle.verify_service.specs.declared.outcome.Outcome.{Outcome}

-- ---- what stays

-- by what calls are judged: the settings; the chain map, the trust anchors and the code table; the answers file; and on
-- how many workers
pub record JudgeBasis : Type 0 where
  pub settings : Settings
  pub materials : Materials
  pub answers : Held
  pub workers : ℕ

-- what a service was told, the answers file, and how many workers there are
abbrev pub basis_by : ServiceView → Held → ℕ → JudgeBasis
basis_by service answers workers =
    record { settings = service.settings; materials = materials_of service; answers = answers; workers = workers }

abbrev pub basis_of : LogVerifier → JudgeBasis
basis_of verifier = basis_by verifier.service verifier.answers.now verifier.workers

abbrev pub config_of : JudgeBasis → JudgeConfig
config_of basis = record { settings = basis.settings; workers = basis.workers }

-- what may be answered to a call, by the files that a shelf tells
abbrev pub AnswersBy : JudgeBasis → Option Files → Entry → Outcome → Type 0
AnswersBy basis None entry outcome = ⊤
AnswersBy basis (Some files) entry outcome =
    Answers (world_by basis.materials files (held_says basis.answers)) basis.settings entry outcome

-- ---- what moves

-- the calls that passed, the chains that are held, the last call, and how often reads of the shelf failed and
-- succeeded; the provider never fails
abbrev pub state_by : ServiceView → Counts → JudgeState
state_by service counts = record {
  past = held service.past;
  held = held_texts service;
  number = service.number;
  moment = service.moment;
  shelf = counts.faults;
  provider = 0;
  reads = counts.reads;
}

abbrev pub state_of : LogVerifier → Counts → JudgeState
state_of verifier counts = state_by verifier.service counts

-- what is held of chains is right, by the files that a shelf tells
abbrev pub TrustsHeld : LogVerifier → Option Files → Type 0
TrustsHeld verifier told = HoldsRight told (held_says verifier.answers.now) verifier.service
