-- What `verify` with a state promises, from what it came to.
use Rattle.std.proofs.Common.{◌≡◌, ℕ, ◌+◌, ◌≤◌, List, [], ◌++◌, Option, Some, None, IfSome, refl, ◌∙◌, ap, subst, arith}
use Rattle.std.specs.Io.KnownBytes.{Appends}
use Rattle.call_log.specs.Entry.{Entry}
use Rattle.call_log.specs.Log.{LogText}
use Rattle.log_run.specs.Batch.{calls_in as calls_of, texts_in}
use Rattle.log_run.specs.Ending.{report_status}
use Rattle.log_run.specs.Words.{DoneReport}
use Rattle.log_rounds.specs.Handed.{IsHanded, JudgedOn}
use Rattle.log_rounds.specs.Judge.{outside_counts}
use Rattle.log_rounds.specs.Rounds.{Round, outcomes_in, unread_pairs}
use Rattle.log_rounds.specs.Verifier.{AnswersBy}
use Rattle.log_run.specs.Batch.{Batch}
use Rattle.replay_law.specs.Held.{Held}
use Rattle.state_text.specs.StateText.{state_text}
use Rattle.stir_files.specs.Going.{GoingOf}
use Rattle.stir_files.specs.declared.going.GoingMaterials.{GoingMaterials}
use Rattle.stir_outside.proofs.CountLaws.{not_risen_behind, then_at_most}
use Rattle.stir_outside.specs.Files.{Files}
use Rattle.stir_words.specs.Order.{VerifyingView}
use Rattle.verify_rules.specs.declared.settings.Settings.{Settings}
use Rattle.verify_service.specs.Handing.{kept_by}
use Rattle.verify_service.specs.Report.{report}
use Rattle.stir_cmd.specs.Outside.{IfTold, Outside}
use Rattle.stir_cmd.specs.Calls.{basis_of, config_by, settings_by}
use Rattle.stir_cmd.specs.Headline.{AreJudgedOn, VerifiedOn}
use Rattle.stir_cmd.specs.OverFiles.{counted, over_files}
use Rattle.stir_cmd.specs.OverLog.{log_in}
use Rattle.stir_cmd.specs.Verifying.{going_over, going_words, start_at}
use Rattle.stir_cmd.proofs.Keeps.{KeepsAll}
use Rattle.stir_cmd.proofs.LogCourseLaws.{log_keeps_on}
use Rattle.stir_cmd.proofs.OverFilesLaws.{behind_files, over_keeps}

-- ---- how the log's run is seen from the whole run, which read the files before it

judged_on : (settings : Settings) (workers : ℕ) (materials : GoingMaterials) (files : Files) (told : Option Files) (before now : Outside) (faults reads : ℕ) (batches : List Batch) (rounds : List Round) (next : Held) → told ≡ Some files
    → before.counts.faults ≤ faults → faults ≤ now.counts.faults
    → JudgedOn (AnswersBy (basis_of settings workers materials.judging) told) (config_by settings workers) (kept_by materials.state.kept) (start_at materials.state) (outside_counts faults 0 reads)
    (outside_counts now.counts.faults 0 now.counts.reads) batches rounds next
    → AreJudgedOn settings workers materials.judging files (kept_by materials.state.kept) before now rounds next
judged_on settings workers materials files told before now faults reads batches rounds next same earlier stay of_told =
    let j = subst (λ (x : Option Files). JudgedOn (AnswersBy (basis_of settings workers materials.judging) x) (config_by settings workers) (kept_by materials.state.kept) (start_at materials.state)
    (outside_counts faults 0 reads) (outside_counts now.counts.faults 0 now.counts.reads) batches rounds next) same of_told in
    record {
      cut = j.cut;
      each = j.each;
      owed = j.owed;
      settled = j.settled;
      in_order = j.in_order;
      unread = then_at_most (unread_pairs (config_by settings workers) rounds) before.counts.faults faults now.counts.faults earlier j.aside.unread;
      quiet = λ q. j.aside.quiet_shelf (not_risen_behind before.counts.faults faults now.counts.faults earlier stay q);
      answered = j.aside.quiet_provider (record { same = refl; below_last = omega arith });
    }

-- ---- the headline

told_by : (verifying : VerifyingView) (name : List ℕ) (before mid now : Outside) (status : ℕ) (files : Option Files) (left : Option (List ℕ)) (materials : GoingMaterials) → GoingOf files verifying.judging name materials
    → before.counts.faults ≤ mid.counts.faults → mid.counts.faults ≤ now.counts.faults → mid.files ≡ files → mid.written ≡ before.written
    → (done : DoneReport (going_words (settings_by verifying.judging.settings) verifying.workers materials mid now) (start_at materials.state) (log_in mid) (log_in now) status)
    → IfSome left (λ bytes. LogText (start_at materials.state) bytes (calls_of done.batches) [])
    → IfTold files left (λ told bytes. VerifiedOn verifying name told bytes before now status)
told_by verifying name before mid now status None left materials stands earlier stay same wrote done log = tt
told_by verifying name before mid now status (Some files) None materials stands earlier stay same wrote done log = tt
told_by verifying name before mid now status (Some files) (Some bytes) materials stands earlier stay same wrote done log =
    let settings = settings_by verifying.judging.settings in
    let closes = done.closes in
    let on = closes.on (record { cut = done.answered.cut; follow = log.follow }) in
    let text : texts_in done.batches ++ done.text ≡ report (materials.state.call + 1) (outcomes_in closes.rounds) ++ state_text closes.state =
    ap (λ t. texts_in done.batches ++ t) closes.text_is ∙ ap (λ t. t ++ state_text closes.state) on.lines in
    record {
      materials = materials;
      stands = stands;
      rounds = closes.rounds;
      log = subst (λ (calls : List Entry). LogText (start_at materials.state) bytes calls []) on.calls log;
      next = closes.next;
      judged = judged_on settings verifying.workers materials files mid.files before now mid.counts.faults mid.counts.reads done.batches closes.rounds closes.next same earlier stay on;
      state = closes.state;
      handed = subst (λ (calls : List Entry). IsHanded (config_by settings verifying.workers) (start_at materials.state) calls closes.next closes.state) on.calls closes.handed;
      reported = subst (λ (x : Option (List ℕ)). Appends x now.written (report (materials.state.call + 1) (outcomes_in closes.rounds) ++ state_text closes.state)) wrote
          (subst (Appends mid.written now.written) text done.reported);
      said = done.said ∙ ap report_status on.well;
    }

pub headline_on : (verifying : VerifyingView) (name : List ℕ) (before now : Outside) (status : ℕ) → (over_files (going_over verifying name)).Came before now status → status ≤ 1
    → IfTold before.files before.left (λ files bytes. VerifiedOn verifying name files bytes before now status)
headline_on verifying name before now status came low =
    let b = behind_files (going_over verifying name) before now status came low in
    told_by verifying name before (counted before b.counts) now status before.files before.left b.read b.stands b.go_on.faults.never_falls b.stay refl refl (b.says.done low) (b.says.done low).log

-- ---- the promises

pub keeps_on : (verifying : VerifyingView) (name : List ℕ) → KeepsAll (over_files (going_over verifying name))
keeps_on verifying name = over_keeps (going_over verifying name) (λ materials. log_keeps_on (start_at materials.state) (going_words (settings_by verifying.judging.settings) verifying.workers materials)
    (λ before now status. Unit {0}) (λ before now still batches calls text name never. never) (λ before now status ran low. tt))
