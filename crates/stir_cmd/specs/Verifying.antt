-- The command `verify`: the log is judged by what four files say, and goes on from the state that a fifth one holds, if
-- one is named.
use Rattle.std.specs.Prelude.{◌⊎◌, ℕ, List, Option, Some, None}
use Rattle.call_log.specs.Log.{Passed, start}
use Rattle.log_run.specs.Words.{Words}
use Rattle.log_rounds.specs.Batches.{words_by}
use Rattle.log_rounds.specs.Handed.{words_on}
use Rattle.state_text.specs.State.{StateView}
use Rattle.stir_files.specs.Going.{GoingOf, going_files}
use Rattle.stir_files.specs.declared.going.GoingMaterials.{GoingMaterials}
use Rattle.stir_files.specs.Materials.{MaterialsOf, files_of}
use Rattle.stir_files.specs.declared.materials.Materials.{Materials}
use Rattle.stir_words.specs.Order.{VerifyingView}
use Rattle.verify_rules.specs.declared.settings.Settings.{Settings}
use Rattle.verify_service.specs.Handing.{kept_by}
use Rattle.stir_cmd.specs.Outside.{Outside}
use Rattle.stir_cmd.specs.Calls.{basis_of, settings_by}
use Rattle.stir_cmd.specs.Course.{Course}
use Rattle.stir_cmd.specs.OverFiles.{OverFiles, over_files}
use Rattle.stir_cmd.specs.OverLog.{log_course, log_course_on}
use Rattle.stir_cmd.specs.Stopping.{NoMemory}

-- what is said of the batches: rounds of 256 calls that were judged by what was read of the files, with the shelf's
-- counts of failed reads and of reads; the provider of signatures never fails
abbrev pub verify_words : Settings → ℕ → Materials → Outside → Outside → Words
verify_words settings workers materials before now =
    words_by (basis_of settings workers materials) before.files (start 0 0) before.counts now.counts

-- what it says of the log is the headline
abbrev pub judging_course : Settings → ℕ → Materials → Course
judging_course settings workers materials =
    log_course (verify_words settings workers materials) (λ before now status. Unit {0})

-- memory may run out for the service, before the input is begun
abbrev pub RanBy : Settings → ℕ → Materials → Outside → Outside → ℕ → Type 0
RanBy settings workers materials before now status =
    (judging_course settings workers materials).Came before now status ⊎ NoMemory before now status

abbrev pub verify_over : VerifyingView → OverFiles
verify_over verifying = record {
  named = files_of verifying.judging;
  Read = Materials;
  Stands = λ files materials. MaterialsOf files verifying.judging materials;
  course = judging_course (settings_by verifying.judging.settings) verifying.workers;
}

-- ---- from a state on

-- nothing was read of a log that goes on from the last call of this state
abbrev pub start_at : StateView → Passed
start_at state = start state.call state.moment

-- the same is said of the batches over what the state keeps, and which state is handed on: its text closes the report
abbrev pub going_words : Settings → ℕ → GoingMaterials → Outside → Outside → Words
going_words settings workers materials before now = words_on (basis_of settings workers materials.judging) before.files
    (kept_by materials.state.kept) (start_at materials.state) before.counts now.counts

abbrev pub going_course : Settings → ℕ → GoingMaterials → Course
going_course settings workers materials =
    log_course_on (start_at materials.state) (going_words settings workers materials) (λ before now status. Unit {0})

-- memory may run out for the service, before the input is begun
abbrev pub WentOn : Settings → ℕ → GoingMaterials → Outside → Outside → ℕ → Type 0
WentOn settings workers materials before now status =
    (going_course settings workers materials).Came before now status ⊎ NoMemory before now status

abbrev pub going_over : VerifyingView → List ℕ → OverFiles
going_over verifying name = record {
  named = going_files verifying.judging name;
  Read = GoingMaterials;
  Stands = λ files materials. GoingOf files verifying.judging name materials;
  course = going_course (settings_by verifying.judging.settings) verifying.workers;
}

-- ---- the whole

-- without a state, and with that of the file of this name
abbrev pub verify_from : VerifyingView → Option (List ℕ) → Course
verify_from verifying None = over_files (verify_over verifying)
verify_from verifying (Some name) = over_files (going_over verifying name)

abbrev pub verify_course : VerifyingView → Course
verify_course verifying = verify_from verifying verifying.state
