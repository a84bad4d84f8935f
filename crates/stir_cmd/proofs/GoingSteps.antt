-- What `verify` with a state came to, from what its steps came to.
use Rattle.std.proofs.Common.{◌≡◌, ℕ, ◌+◌, ◌≤◌, inl, inr, List, length, Option, Some, None, Ok, sym, ap, subst, arith}
use Rattle.cert_store.specs.Using.{names}
use Rattle.cert_store.specs.declared.world.World.{World as Told}
use Rattle.call_log.specs.Log.{Passed, start}
use Rattle.log_run.specs.Words.{LogSays}
use Rattle.log_rounds.proofs.NewLaws.{told_basis}
use Rattle.log_rounds.specs.Handed.{GoesOnFrom, words_on}
use Rattle.log_rounds.specs.Verifier.{JudgeBasis, basis_by, state_by}
use Rattle.replay_law.specs.Held.{Held}
use Rattle.state_text.specs.State.{StateView}
use Rattle.state_text.specs.StateText.{StateFile}
use Rattle.stir_files.specs.Going.{GoingOf, going_files}
use Rattle.stir_files.specs.Stop.{Truly}
use Rattle.stir_files.specs.declared.going.GoingMaterials.{GoingMaterials}
use Rattle.stir_outside.specs.Files.{Counts, CountsGoOn, Files}
use Rattle.stir_words.specs.Order.{VerifyingView}
use Rattle.verify_rules.specs.declared.settings.Settings.{Settings}
use Rattle.verify_service.specs.Handing.{IsRestored, kept_by}
use Rattle.verify_service.specs.Rows.{held}
use Rattle.verify_service.specs.Service.{ServiceView}
use Rattle.stir_cmd.specs.Outside.{Outside, outside}
use Rattle.stir_cmd.specs.Calls.{basis_of, settings_by}
use Rattle.stir_cmd.specs.OverFiles.{over_files}
use Rattle.stir_cmd.specs.OverLog.{log_in}
use Rattle.stir_cmd.specs.Verifying.{WentOn, going_course, going_over, start_at, verify_from, verify_over}
use Rattle.stir_cmd.proofs.OverFilesSteps.{goes_on, short_behind}

-- ---- which words

pub ran_alone : (verifying : VerifyingView) (state : Option (List ℕ)) (before now : Outside) (status : ℕ) → state ≡ None → (over_files (verify_over verifying)).Came before now status
    → (verify_from verifying state).Came before now status
ran_alone verifying state before now status is came = subst (λ (x : Option (List ℕ)). (verify_from verifying x).Came before now status) (sym is) came

pub ran_on : (verifying : VerifyingView) (state : Option (List ℕ)) (name : List ℕ) (before now : Outside) (status : ℕ) → state ≡ Some name → (over_files (going_over verifying name)).Came before now status
    → (verify_from verifying state).Came before now status
ran_on verifying state name before now status is came = subst (λ (x : Option (List ℕ)). (verify_from verifying x).Came before now status) (sym is) came

-- ---- the files were read

pub from_files : (verifying : VerifyingView) (name : List ℕ) (materials : GoingMaterials) (settings : Settings) (files files_now : Option Files) (counts counts_now : Counts) (left : Option (List ℕ)) (reads : ℕ)
    (written : Option (List ℕ)) (writes : ℕ) (now : Outside) (status : ℕ) → GoingOf files verifying.judging name materials → Truly files (going_files verifying.judging name) (Ok materials) → files_now ≡ files
    → CountsGoOn counts counts_now → counts_now.reads ≤ counts.reads + length (going_files verifying.judging name) → settings ≡ settings_by verifying.judging.settings → counts_now.faults ≤ now.counts.faults
    → WentOn settings verifying.workers materials (outside files_now counts_now left reads written writes) now status
    → (over_files (going_over verifying name)).Came (outside files counts left reads written writes) now status
from_files verifying name materials settings files files_now counts counts_now left reads written writes now status stands truly same goes few given stay (inl by) =
    goes_on (going_over verifying name) materials files files_now counts counts_now left reads written writes now status stands truly same goes few stay
    (subst (λ (x : Settings). (going_course x verifying.workers materials).Came (outside files_now counts_now left reads written writes) now status) given by)
from_files verifying name materials settings files files_now counts counts_now left reads written writes now status stands truly same goes few given stay (inr none) =
    short_behind (going_over verifying name) files files_now counts counts_now left reads written writes now status none

call_in_file : (past : ℕ) (content : List ℕ) (state : StateView) → StateFile past content state → state.call ≤ 4000000000
call_in_file past content state (inl none) = let e : state.call ≡ 0 = ap (λ (s : StateView). s.call) none.1 in omega (arith, e)
call_in_file past content state (inr holds) = holds.state.call

-- the number of the state's call has room for those of a log
pub call_within : (files : Option Files) (verifying : VerifyingView) (name : List ℕ) (materials : GoingMaterials) → GoingOf files verifying.judging name materials → materials.state.call ≤ 4000000000
call_within files verifying name materials stands = call_in_file _ _ materials.state stands.state.holds.file

-- the service judges by the state's window
pub same_window : (files : Option Files) (verifying : VerifyingView) (name : List ℕ) (materials : GoingMaterials) (settings : Settings) → GoingOf files verifying.judging name materials
    → settings ≡ settings_by verifying.judging.settings → materials.state.window ≡ settings.past
same_window files verifying name materials settings stands given = rw given stands.state.holds.window

-- ---- a restored service is at the state's last call

pub goes_on_from : (settings : Settings) (told : Told) (state : StateView) (service : ServiceView) (counts : Counts) (call moment : ℕ) → IsRestored settings told state service → call ≡ state.call → moment ≡ state.moment
    → GoesOnFrom call moment (state_by service counts)
goes_on_from settings told state service counts call moment r number last = record { held = ap names r.no_chain; number_is = rw number r.number; moment_is = rw last r.moment }

-- ---- the log was judged by a restored service

same_kept : (settings : Settings) (told : Told) (state : StateView) (service : ServiceView) → IsRestored settings told state service → held service.past ≡ kept_by state.kept
same_kept settings told state service r = λ i ticket. sym (r.past ticket) i

pub same_start : (state : StateView) (call moment : ℕ) → call ≡ state.call → moment ≡ state.moment → start call moment ≡ start_at state
same_start state call moment number last = λ i. record { number = number i; moment = last i; count = 0; place = 0 }

pub log_on : (settings : Settings) (workers : ℕ) (materials : GoingMaterials) (service : ServiceView) (call moment : ℕ) (before now : Outside) (status : ℕ)
    → IsRestored settings materials.judging.world materials.state service
    → call ≡ materials.state.call → moment ≡ materials.state.moment
    → LogSays (words_on (basis_by service materials.judging.answers workers) before.files (held service.past) (start call moment) before.counts now.counts) (start call moment) (log_in before) (log_in now) status
    → WentOn settings workers materials before now status
log_on settings workers materials service call moment before now status r number last says =
    let basis = basis_of settings workers materials.judging in
    let told : Told = materials.judging.world in
    let by_basis = subst (λ (x : JudgeBasis). LogSays (words_on x before.files (held service.past) (start call moment) before.counts now.counts) (start call moment) (log_in before) (log_in now) status)
    (told_basis settings workers told materials.judging.answers service r.settings_are r.chains r.anchors r.table) says in
    let by_past = subst (λ (x : Held). LogSays (words_on basis before.files x (start call moment) before.counts now.counts) (start call moment) (log_in before) (log_in now) status)
    (same_kept settings told materials.state service r) by_basis in
    inl (subst (λ (x : Passed). LogSays (words_on basis before.files (kept_by materials.state.kept) x before.counts now.counts) x (log_in before) (log_in now) status)
    (same_start materials.state call moment number last) by_past)
