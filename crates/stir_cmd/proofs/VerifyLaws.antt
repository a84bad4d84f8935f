-- What `verify` promises, from what it came to.
use Rattle.std.proofs.Common.{◌≡◌, ℕ, ◌≤◌, List, [], ◌++◌, Option, Some, None, IfSome, refl, ◌∙◌, ap, append-nil, subst, arith}
use Rattle.std.specs.Io.KnownBytes.{Appends}
use Rattle.call_log.specs.Entry.{Entry}
use Rattle.call_log.specs.Log.{LogText, start}
use Rattle.log_run.specs.Batch.{calls_in, texts_in}
use Rattle.log_run.specs.Ending.{report_status}
use Rattle.log_run.specs.Words.{DoneReport}
use Rattle.log_rounds.specs.Judge.{outside_counts}
use Rattle.log_rounds.specs.Judged as judged
use Rattle.log_rounds.specs.Verifier.{AnswersBy}
use Rattle.log_rounds.specs.Rounds.{Round, outcomes_in, unread_pairs}
use Rattle.stir_files.specs.Materials.{MaterialsOf}
use Rattle.stir_files.specs.declared.materials.Materials.{Materials}
use Rattle.stir_outside.proofs.CountLaws.{not_risen_behind, then_at_most}
use Rattle.stir_outside.specs.Files.{Files}
use Rattle.stir_words.specs.Order.{VerifyBy, VerifyingView}
use Rattle.verify_rules.specs.declared.settings.Settings.{Settings}
use Rattle.verify_service.specs.Report.{report}
use Rattle.stir_cmd.specs.Outside.{IfTold, Outside}
use Rattle.stir_cmd.specs.Calls.{basis_of, config_by, settings_by}
use Rattle.stir_cmd.specs.Headline.{AreJudged, Headline, Verified, VerifiedFrom}
use Rattle.stir_cmd.specs.OverFiles.{counted}
use Rattle.stir_cmd.specs.OverLog.{log_in}
use Rattle.stir_cmd.specs.Verifying.{verify_course, verify_from, verify_over, verify_words}
use Rattle.stir_cmd.proofs.GoingLaws.{headline_on, keeps_on}
use Rattle.stir_cmd.proofs.Keeps.{KeepsAll}
use Rattle.stir_cmd.proofs.LogCourseLaws.{log_keeps}
use Rattle.stir_cmd.proofs.OverFilesLaws.{behind_files, over_keeps}

-- ---- how the log's run is seen from the whole run, which read the files before it

are_judged : (settings : Settings) (workers : ℕ) (materials : Materials) (files : Files) (before now : Outside) (faults reads : ℕ) (rounds : List Round) → before.counts.faults ≤ faults → faults ≤ now.counts.faults
    → judged.AreJudged (AnswersBy (basis_of settings workers materials) (Some files)) (config_by settings workers) (outside_counts faults 0 reads) (outside_counts now.counts.faults 0 now.counts.reads) rounds → AreJudged settings workers materials files before now rounds
are_judged settings workers materials files before now faults reads rounds earlier stay j = record {
  cut = j.cut;
  each = j.each;
  legal = j.legal;
  first_wins = j.first_wins;
  unread = then_at_most (unread_pairs (config_by settings workers) rounds) before.counts.faults faults now.counts.faults earlier j.aside.unread;
  quiet = λ q. j.aside.quiet_shelf (not_risen_behind before.counts.faults faults now.counts.faults earlier stay q);
  answered = j.aside.quiet_provider (record { same = refl; below_last = omega arith });
}

-- ---- the headline

told_by : (verifying : VerifyingView) (before mid now : Outside) (status : ℕ) (files : Option Files) (left : Option (List ℕ)) (materials : Materials) → MaterialsOf files verifying.judging materials → before.counts.faults ≤ mid.counts.faults
    → mid.counts.faults ≤ now.counts.faults → mid.files ≡ files → mid.written ≡ before.written
    → (done : DoneReport (verify_words (settings_by verifying.judging.settings) verifying.workers materials mid now) (start 0 0) (log_in mid) (log_in now) status) → IfSome left (λ bytes. LogText (start 0 0) bytes (calls_in done.batches) [])
    → IfTold files left (λ told bytes. Verified verifying told bytes before now status)
told_by verifying before mid now status None left materials stands earlier stay same wrote done log = tt
told_by verifying before mid now status (Some files) None materials stands earlier stay same wrote done log = tt
told_by verifying before mid now status (Some files) (Some bytes) materials stands earlier stay same wrote done log =
    let known = done.answered.known in
    let lines : texts_in done.batches ++ done.text ≡ report 1 (outcomes_in known.rounds) = ap (λ t. texts_in done.batches ++ t) done.closes.none ∙ append-nil (texts_in done.batches) ∙ known.lines in
    record {
      materials = materials;
      stands = stands;
      rounds = known.rounds;
      log = subst (λ (calls : List Entry). LogText (start 0 0) bytes calls []) known.calls log;
      judged = are_judged (settings_by verifying.judging.settings) verifying.workers materials files before now mid.counts.faults mid.counts.reads known.rounds earlier stay
          (subst (λ (x : Option Files). judged.AreJudged (AnswersBy (basis_of (settings_by verifying.judging.settings) verifying.workers materials) x) (config_by (settings_by verifying.judging.settings) verifying.workers) (outside_counts mid.counts.faults 0 mid.counts.reads) (outside_counts now.counts.faults 0 now.counts.reads) known.rounds) same known.are_judged);
      reported = subst (λ (x : Option (List ℕ)). Appends x now.written (report 1 (outcomes_in known.rounds))) wrote (subst (Appends mid.written now.written) lines done.reported);
      said = done.said ∙ ap report_status known.well;
    }

headline_from : (verifying : VerifyingView) (state : Option (List ℕ)) (before now : Outside) (status : ℕ) → (verify_from verifying state).Came before now status → status ≤ 1
    → IfTold before.files before.left (VerifiedFrom verifying state before now status)
headline_from verifying None before now status came low =
    let b = behind_files (verify_over verifying) before now status came low in
    told_by verifying before (counted before b.counts) now status before.files before.left b.read b.stands b.go_on.faults.never_falls b.stay refl refl (b.says.done low) (b.says.done low).log
headline_from verifying (Some name) before now status came low = headline_on verifying name before now status came low

pub headline : (verifying : VerifyingView) (before now : Outside) (status : ℕ) → (verify_course verifying).Came before now status → Headline (Some (VerifyBy verifying)) before now status
headline verifying before now status came = λ low. headline_from verifying verifying.state before now status came low

-- ---- the promises

keeps_from : (verifying : VerifyingView) (state : Option (List ℕ)) → KeepsAll (verify_from verifying state)
keeps_from verifying (Some name) = keeps_on verifying name
keeps_from verifying None = over_keeps (verify_over verifying) (λ materials. log_keeps (verify_words (settings_by verifying.judging.settings) verifying.workers materials) (λ before now status. Unit {0}) (λ before now still batches calls text name never. never) (λ before now status ran low. tt))

pub keeps_all : (verifying : VerifyingView) → KeepsAll (verify_course verifying)
keeps_all verifying = keeps_from verifying verifying.state
