-- What `verify` came to, from what its steps came to.
use Rattle.std.proofs.Common.{◌≡◌, ℕ, ◌+◌, ◌≤◌, inl, inr, List, length, Option, Ok, subst}
use Rattle.call_log.specs.Log.{start}
use Rattle.log_run.specs.Words.{LogSays}
use Rattle.log_rounds.proofs.NewLaws.{told_basis}
use Rattle.log_rounds.specs.Batches.{words_by}
use Rattle.log_rounds.specs.Verifier.{JudgeBasis, basis_by}
use Rattle.stir_files.specs.Materials.{MaterialsOf, files_of}
use Rattle.stir_files.specs.Stop.{Truly}
use Rattle.stir_files.specs.declared.materials.Materials.{Materials}
use Rattle.stir_outside.specs.Files.{Counts, CountsGoOn, Files}
use Rattle.stir_words.specs.Order.{VerifyingView}
use Rattle.verify_rules.specs.declared.settings.Settings.{Settings}
use Rattle.verify_service.specs.Service.{IsNew, ServiceView}
use Rattle.stir_cmd.specs.Outside.{Outside, outside}
use Rattle.stir_cmd.specs.Calls.{settings_by}
use Rattle.stir_cmd.specs.OverFiles.{over_files}
use Rattle.stir_cmd.specs.OverLog.{log_in}
use Rattle.stir_cmd.specs.Verifying.{RanBy, judging_course, verify_over}
use Rattle.stir_cmd.proofs.OverFilesSteps.{goes_on, short_behind}

-- ---- the files were read

pub from_files : (verifying : VerifyingView) (materials : Materials) (settings : Settings) (files files_now : Option Files) (counts counts_now : Counts) (left : Option (List ℕ)) (reads : ℕ) (written : Option (List ℕ)) (writes : ℕ)
    (now : Outside) (status : ℕ) → MaterialsOf files verifying.judging materials → Truly files (files_of verifying.judging) (Ok materials) → files_now ≡ files → CountsGoOn counts counts_now → counts_now.reads ≤ counts.reads + length (files_of verifying.judging)
    → settings ≡ settings_by verifying.judging.settings → counts_now.faults ≤ now.counts.faults → RanBy settings verifying.workers materials (outside files_now counts_now left reads written writes) now status
    → (over_files (verify_over verifying)).Came (outside files counts left reads written writes) now status
from_files verifying materials settings files files_now counts counts_now left reads written writes now status stands truly same goes few given stay (inl by) =
    goes_on (verify_over verifying) materials files files_now counts counts_now left reads written writes now status stands truly same goes few stay
    (subst (λ (x : Settings). (judging_course x verifying.workers materials).Came (outside files_now counts_now left reads written writes) now status) given by)
from_files verifying materials settings files files_now counts counts_now left reads written writes now status stands truly same goes few given stay (inr none) =
    short_behind (verify_over verifying) files files_now counts counts_now left reads written writes now status none

-- ---- the log was judged by a new service

pub log_by : (settings : Settings) (workers : ℕ) (materials : Materials) (service : ServiceView) (before now : Outside) (status : ℕ) → IsNew settings materials.world service
    → LogSays (words_by (basis_by service materials.answers workers) before.files (start 0 0) before.counts now.counts) (start 0 0) (log_in before) (log_in now) status → RanBy settings workers materials before now status
log_by settings workers materials service before now status new says =
    inl (subst (λ (x : JudgeBasis). LogSays (words_by x before.files (start 0 0) before.counts now.counts) (start 0 0) (log_in before) (log_in now) status) (told_basis settings workers materials.world materials.answers service new.settings_are new.chains new.anchors new.table) says)
