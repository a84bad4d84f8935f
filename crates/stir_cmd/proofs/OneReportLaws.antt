-- Two runs of `verify` on one worker over the same files and the same log give one report.
use Rattle.std.proofs.Common.{◌≡◌, ℕ, ◌≤◌, List, [], Option, Some, None, refl, sym, ◌∙◌, ap, subst}
use Rattle.std.specs.Io.KnownBytes.{Appends}
use Rattle.call_log.specs.Entry.{Entry}
use Rattle.call_log.specs.HandsOut.{OneLog}
use Rattle.call_log.specs.Log.{start}
use Rattle.log_rounds.specs.AllValid.{all_valid}
use Rattle.log_run.specs.Ending.{report_status}
use Rattle.log_rounds.specs.Rounds.{IsApart, Round, calls_in, outcomes_in, row_rounds}
use Rattle.replay_law.specs.Law.{OneAnswer}
use Rattle.stir_files.specs.declared.materials.Materials.{Materials}
use Rattle.stir_outside.specs.Count.{NotRisen}
use Rattle.stir_outside.specs.Files.{Files}
use Rattle.stir_words.specs.Order.{OrderView, VerifyBy, VerifyingView}
use Rattle.verify_rules.specs.World.{First}
use Rattle.verify_rules.specs.declared.settings.Settings.{Settings}
use Rattle.verify_service.specs.Report.{report}
use Rattle.verify_service.specs.Judging.{call_in}
use Rattle.stir_cmd.specs.Calls.{config_by, settings_by, world_by}
use Rattle.stir_cmd.specs.Headline.{AreJudged, Headline, Verified, VerifiedFrom}
use Rattle.stir_cmd.specs.OneReport.{AreOneMap, AreOneReport, GivesOneFrom, GivesOneReport, IsLogApart, IsOneReport}
use Rattle.stir_cmd.specs.Outside.{IfTold, Outside}
use Rattle.stir_cmd.proofs.SameReadings.{SameWorldLaw, same_says, told_of}
use Rattle.stir_cmd.proofs.OneReportOnLaws.{with_state}
use Rattle.stir_cmd.proofs.AnswersAlike.{NoneAside, OneAnswerEach, RoundsAlike, all_same, has_each, rounds_alike, rounds_turned, same_cut}

-- ---- the report

-- the laws of the crates below that are needed
pub record OneReportLawsOf : Type 0 where
  pub one_log : OneLog
  pub one_answer : OneAnswer
  pub same_world : SameWorldLaw

none_aside : (settings : Settings) (workers : ℕ) (materials : Materials) (files : Files) (before now : Outside) (rounds : List Round)
    → AreJudged settings workers materials files before now rounds → NotRisen before.counts.faults now.counts.faults → NoneAside (outcomes_in rounds)
none_aside settings workers materials files before now rounds judged quiet = record { read = judged.quiet quiet; asked = judged.answered }

one_outcomes : OneReportLawsOf → (verifying : VerifyingView) → verifying.workers ≡ 1 → (files others : Files) → AreOneMap files others → (bytes : List ℕ) (before now other other_now : Outside) (status other_status : ℕ)
    → IsLogApart verifying bytes → (mine : Verified verifying files bytes before now status) (yours : Verified verifying others bytes other other_now other_status)
    → NotRisen before.counts.faults now.counts.faults → NotRisen other.counts.faults other_now.counts.faults → outcomes_in mine.rounds ≡ outcomes_in yours.rounds
one_outcomes laws verifying single files others one_map bytes before now other other_now status other_status apart mine yours quiet quiet_other =
    let settings = settings_by verifying.judging.settings in
    let config = config_by settings verifying.workers in
    let world = world_by mine.materials files in
    let world_other = world_by yours.materials others in
    let calls = (laws.one_log (start 0 0) bytes (calls_in mine.rounds) (calls_in yours.rounds) [] [] mine.log yours.log).0 in
    let same : (entry : Entry) → First world (call_in settings entry) ≡ First world_other (call_in settings entry) =
    λ entry. laws.same_world world world_other (same_says files others one_map verifying.judging mine.materials yours.materials mine.stands yours.stands) (call_in settings entry) in
    let cut = same_cut mine.rounds yours.rounds mine.judged.cut yours.judged.cut calls in
    let alike : RoundsAlike mine.rounds yours.rounds =
    rounds_alike world world_other settings same mine.rounds yours.rounds cut mine.judged.each yours.judged.each
    (none_aside settings verifying.workers mine.materials files before now mine.rounds mine.judged quiet) (none_aside settings verifying.workers yours.materials others other other_now yours.rounds yours.judged quiet_other) in
    let apart_mine : IsApart config (calls_in mine.rounds) = apart (calls_in mine.rounds) mine.log in
    let apart_yours : IsApart config (calls_in yours.rounds) = apart (calls_in yours.rounds) yours.log in
    let one : OneAnswerEach config mine.rounds yours.rounds =
    laws.one_answer (row_rounds config mine.rounds) (row_rounds config yours.rounds) (has_each config mine.rounds yours.rounds alike)
    (has_each config yours.rounds mine.rounds (rounds_turned mine.rounds yours.rounds alike))
    (mine.judged.legal apart_mine).once (mine.judged.first_wins single apart_mine) (yours.judged.legal apart_yours).once (yours.judged.first_wins single apart_yours) in
    all_same world world_other config mine.rounds yours.rounds alike mine.judged.each yours.judged.each one

one_report : OneReportLawsOf → (verifying : VerifyingView) → verifying.workers ≡ 1 → (files others : Files) → AreOneMap files others → (bytes : List ℕ) (before now other other_now : Outside) (status other_status : ℕ)
    → IsLogApart verifying bytes → Verified verifying files bytes before now status → Verified verifying others bytes other other_now other_status
    → NotRisen before.counts.faults now.counts.faults → NotRisen other.counts.faults other_now.counts.faults → AreOneReport before now status other other_now other_status
one_report laws verifying single files others one_map bytes before now other other_now status other_status apart mine yours quiet quiet_other =
    let same = one_outcomes laws verifying single files others one_map bytes before now other other_now status other_status apart mine yours quiet quiet_other in
    record {
      text = report 1 (outcomes_in mine.rounds);
      written = mine.reported;
      other_written = subst (λ outcomes. Appends other.written other_now.written (report 1 outcomes)) (sym same) yours.reported;
      same_status = mine.said ∙ ap (λ outcomes. report_status (all_valid outcomes)) same ∙ sym yours.said;
    }

gives_by : OneReportLawsOf → (verifying : VerifyingView) → verifying.state ≡ None → verifying.workers ≡ 1 → (before now : Outside) (status : ℕ) (told : Option Files) (left : Option (List ℕ))
    → NotRisen before.counts.faults now.counts.faults → IfTold told left (λ files bytes. Verified verifying files bytes before now status)
    → IfTold told left (λ files bytes. IsOneReport verifying files bytes before now status)
gives_by laws verifying alone single before now status None left quiet said = tt
gives_by laws verifying alone single before now status (Some files) None quiet said = tt
gives_by laws verifying alone single before now status (Some files) (Some bytes) quiet said = record {
  same = λ apart other other_now other_status ran.
      one_report laws verifying single files ran.others ran.same_files bytes before now other other_now status other_status apart said
      (told_of (Verified verifying) ran.others bytes other other_now other_status ran.told ran.same_log
      (subst (λ (x : Option (List ℕ)). IfTold other.files other.left (VerifiedFrom verifying x other other_now other_status)) alone (ran.headline ran.done))) quiet ran.quiet;
}

-- if no state is named, and if one is
by_state : OneReportLawsOf → (verifying : VerifyingView) (state : Option (List ℕ)) → verifying.state ≡ state → (before now : Outside) (status : ℕ)
    → (status ≤ 1 → IfTold before.files before.left (VerifiedFrom verifying state before now status)) → GivesOneFrom verifying state before now status
by_state laws verifying (Some name) is before now status said = with_state laws.one_log laws.same_world verifying name is before now status said
by_state laws verifying None is before now status said =
    λ single done quiet. gives_by laws verifying is single before now status before.files before.left quiet (said done)

pub gives_one_report : OneReportLawsOf → (order : Option OrderView) (before now : Outside) (status : ℕ) → Headline order before now status → GivesOneReport order before now status
gives_one_report laws (Some (VerifyBy verifying)) before now status said = by_state laws verifying verifying.state refl before now status said
gives_one_report laws other before now status said = _
