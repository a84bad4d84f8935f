-- How often a run with the words of `verify` reads files, whatever its status, if shelf and input are told: no more
-- often than if each of the named files, and the file of each x5u that the log's calls name, were read once.
use Rattle.std.specs.Prelude.{ℕ, ◌+◌, ◌≤◌, ◌⊎◌, List, length, Option, Some, None}
use Rattle.call_log.specs.Entry.{Entry}
use Rattle.call_log.specs.Log.{LogText, Passed, start}
use Rattle.cert_store.specs.Files.{Files as ChainFiles}
use Rattle.log_rounds.specs.Reads.{HaveNamed}
use Rattle.stir_files.specs.Going.{GoingOf}
use Rattle.stir_files.specs.Materials.{MaterialsOf}
use Rattle.stir_files.specs.declared.going.GoingMaterials.{GoingMaterials}
use Rattle.stir_files.specs.declared.materials.Materials.{Materials}
use Rattle.stir_outside.specs.Files.{Files}
use Rattle.stir_words.specs.Order.{OrderView, VerifyBy, VerifyingView}
use Rattle.verify_rules.specs.declared.settings.Settings.{Settings}
use Rattle.stir_cmd.specs.Outside.{IfTold, Outside}
use Rattle.stir_cmd.specs.Calls.{settings_by}
use Rattle.stir_cmd.specs.Verifying.{start_at}

-- Let these be the calls of the log, whatever comes after them. Take at most 4,096 texts, among them each x5u text that
-- the calls name and the chain map lists: files were read at most as many more times as there are texts.
abbrev pub ReadsLog : Settings → ChainFiles → Passed → List ℕ → ℕ → ℕ → Type 0
ReadsLog settings chains passed bytes reads now = (calls : List Entry) (rest : List ℕ) (texts : List (List ℕ))
    → LogText passed bytes calls rest → HaveNamed settings chains calls texts → now ≤ reads + length texts

-- The four named files are in their grammars, and that is said of the log after four reads.
pub record ReadsFew (verifying : VerifyingView) (files : Files) (bytes : List ℕ) (before now : Outside) : Type 0 where
  pub materials : Materials
  pub stands : MaterialsOf (Some files) verifying.judging materials
  pub reads : ReadsLog (settings_by verifying.judging.settings) materials.world.chains (start 0 0) bytes
      (before.counts.reads + 4) now.counts.reads

-- The same of a log that goes on from a state: there is one named file more.
pub record ReadsFewOn (verifying : VerifyingView) (name : List ℕ) (files : Files) (bytes : List ℕ)
    (before now : Outside) : Type 0 where
  pub materials : GoingMaterials
  pub stands : GoingOf (Some files) verifying.judging name materials
  pub reads : ReadsLog (settings_by verifying.judging.settings) materials.judging.world.chains
      (start_at materials.state) bytes (before.counts.reads + 5) now.counts.reads

-- or none but named files were read, each once at most
abbrev pub ReadsFewFrom : VerifyingView → Option (List ℕ) → Outside → Outside → Files → List ℕ → Type 0
ReadsFewFrom verifying None before now files bytes =
    (now.counts.reads ≤ before.counts.reads + 4) ⊎ ReadsFew verifying files bytes before now
ReadsFewFrom verifying (Some name) before now files bytes =
    (now.counts.reads ≤ before.counts.reads + 5) ⊎ ReadsFewOn verifying name files bytes before now

abbrev pub FewReadsFrom : VerifyingView → Option (List ℕ) → Outside → Outside → Type 0
FewReadsFrom verifying state before now = IfTold before.files before.left (ReadsFewFrom verifying state before now)

abbrev pub FewReads : Option OrderView → Outside → Outside → Type 0
FewReads (Some (VerifyBy verifying)) before now = FewReadsFrom verifying verifying.state before now
FewReads other before now = Unit {0}
