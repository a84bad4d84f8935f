-- What any two runs of `verify` on one worker have in common that judge one log by the same files, as a map: the report
-- is one function of both.
use Rattle.std.specs.Prelude.{◌≡◌, ℕ, ◌≤◌, List, [], Option, Some, None}
use Rattle.std.specs.Io.KnownBytes.{Appends}
use Rattle.call_log.specs.Entry.{Entry}
use Rattle.call_log.specs.Log.{LogText, start}
use Rattle.log_rounds.specs.Rounds.{IsApart}
use Rattle.stir_outside.specs.Count.{NotRisen}
use Rattle.stir_outside.specs.Files.{Files, file}
use Rattle.stir_words.specs.Order.{OrderView, VerifyBy, VerifyingView}
use Rattle.stir_cmd.specs.Calls.{config_by, settings_by}
use Rattle.stir_cmd.specs.Headline.{Headline}
use Rattle.stir_cmd.specs.Outside.{IfTold, Outside}

-- no two different texts that were signed as last PASSporTs of the log's calls have one digest
abbrev pub IsLogApart : VerifyingView → List ℕ → Type 0
IsLogApart verifying bytes = (calls : List Entry) → LogText (start 0 0) bytes calls []
    → IsApart (config_by (settings_by verifying.judging.settings) verifying.workers) calls

-- the same file for each name, in whatever order the files are kept
abbrev pub AreOneMap : Files → Files → Type 0
AreOneMap files others = (name : List ℕ) → file name files ≡ file name others

-- a run over the same files, as a map, and this log that kept the headline's promise, ended with 0 or 1, and in which
-- no read of the shelf failed
pub record JudgedTheSame (order : Option OrderView) (files : Files) (bytes : List ℕ) (before now : Outside)
    (status : ℕ) : Type 0 where
  pub others : Files
  pub told : before.files ≡ Some others
  pub same_files : AreOneMap files others
  pub same_log : before.left ≡ Some bytes
  pub headline : Headline order before now status
  pub done : status ≤ 1
  pub quiet : NotRisen before.counts.faults now.counts.faults

-- both wrote the same bytes, and ended with the same status
pub record AreOneReport (before now : Outside) (status : ℕ) (other other_now : Outside)
    (other_status : ℕ) : Type 0 where
  pub text : List ℕ
  pub written : Appends before.written now.written text
  pub other_written : Appends other.written other_now.written text
  pub same_status : status ≡ other_status

-- each other run over the same files and log gave the same report, if no two of those texts have one digest
pub record IsOneReport (verifying : VerifyingView) (files : Files) (bytes : List ℕ) (before now : Outside)
    (status : ℕ) : Type 0 where
  pub same : IsLogApart verifying bytes → (other other_now : Outside) (other_status : ℕ)
      → JudgedTheSame (Some (VerifyBy verifying)) files bytes other other_now other_status
      → AreOneReport before now status other other_now other_status

-- the same of words with a state, whatever the digests: what passed is told by what the state keeps and by the order of
-- the calls
pub record IsOneReportOn (verifying : VerifyingView) (files : Files) (bytes : List ℕ) (before now : Outside)
    (status : ℕ) : Type 0 where
  pub same : (other other_now : Outside) (other_status : ℕ)
      → JudgedTheSame (Some (VerifyBy verifying)) files bytes other other_now other_status
      → AreOneReport before now status other other_now other_status

-- without a state, and with one
abbrev pub GivesOneFrom : VerifyingView → Option (List ℕ) → Outside → Outside → ℕ → Type 0
GivesOneFrom verifying None before now status = verifying.workers ≡ 1 → status ≤ 1
    → NotRisen before.counts.faults now.counts.faults
    → IfTold before.files before.left (λ files bytes. IsOneReport verifying files bytes before now status)
GivesOneFrom verifying (Some name) before now status = verifying.workers ≡ 1 → status ≤ 1
    → NotRisen before.counts.faults now.counts.faults
    → IfTold before.files before.left (λ files bytes. IsOneReportOn verifying files bytes before now status)

abbrev pub GivesOneReport : Option OrderView → Outside → Outside → ℕ → Type 0
GivesOneReport (Some (VerifyBy verifying)) before now status = GivesOneFrom verifying verifying.state before now status
GivesOneReport other before now status = Unit {0}
