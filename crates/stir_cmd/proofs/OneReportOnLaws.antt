-- Two runs of `verify` on one worker that go on from one state, over the same log, give one report and hand on one state.
use Rattle.std.proofs.Common.{◌≡◌, ℕ, ◌+◌, ◌≤◌, List, [], ◌∷◌, ◌++◌, Option, Some, None, Ok, refl, sym, ◌∙◌, ap, subst}
use Rattle.std.specs.Io.KnownBytes.{Appends}
use Rattle.std.specs.Map.{lookup}
use Rattle.std.specs.Option.{option_map}
use Rattle.std.specs.Str.{bytes_eq}
use Rattle.std.proofs.lemmas.Option.{none-some, same_Some}
use Rattle.call_log.specs.Entry.{Entry}
use Rattle.call_log.specs.HandsOut.{OneLog}
use Rattle.call_log.specs.Log.{LogText, Passed}
use Rattle.log_run.specs.Ending.{report_status}
use Rattle.log_rounds.specs.AllValid.{all_valid}
use Rattle.log_rounds.specs.Handed.{IsHanded}
use Rattle.log_rounds.specs.Judge.{JudgeConfig}
use Rattle.log_rounds.specs.Rounds.{AllInOrder, Round, calls_in, outcomes_in, row_rounds}
use Rattle.replay_law.specs.Held.{Held, Same, unless_below}
use Rattle.replay_law.specs.Round.{Rounds, first_moment}
use Rattle.replay_law.specs.Row.{Row}
use Rattle.state_text.specs.Reading.{read_state}
use Rattle.state_text.specs.State.{StateView}
use Rattle.state_text.specs.StateText.{state_text}
use Rattle.state_text.specs.declared.kept.Kept.{Kept}
use Rattle.stir_files.specs.Going.{GoingOf}
use Rattle.stir_files.specs.StateFile.{state_file}
use Rattle.stir_files.specs.declared.going.GoingMaterials.{GoingMaterials}
use Rattle.stir_files.specs.declared.materials.Materials.{Materials}
use Rattle.stir_outside.specs.Count.{NotRisen}
use Rattle.stir_outside.specs.Files.{Files}
use Rattle.stir_words.specs.Order.{JudgingView, VerifyingView}
use Rattle.verify_rules.specs.World.{First}
use Rattle.verify_rules.specs.declared.settings.Settings.{Settings}
use Rattle.verify_service.specs.Handing.{kept_by}
use Rattle.verify_service.specs.Judging.{call_in}
use Rattle.verify_service.specs.Report.{report}
use Rattle.verify_service.specs.Rows.{kept_of_past, rows_of}
use Rattle.verify_service.specs.Service.{last_moment_of, last_number}
use Rattle.verify_service.specs.declared.outcome.Outcome.{Outcome}
use Rattle.stir_cmd.specs.Calls.{config_by, settings_by, world_by}
use Rattle.stir_cmd.specs.Headline.{AreJudgedOn, VerifiedFrom, VerifiedOn}
use Rattle.stir_cmd.specs.OneReport.{AreOneMap, AreOneReport, GivesOneFrom, IsOneReportOn}
use Rattle.stir_cmd.specs.Outside.{IfTold, Outside}
use Rattle.stir_cmd.specs.Verifying.{start_at}
use Rattle.stir_cmd.proofs.AnswersAlike.{AllAlike, NoneAside, RoundsAlike, all_same, rounds_alike, same_cut}
use Rattle.stir_cmd.proofs.OneGoingLaws.{AreOneCalls, AreOneRounds, CameToOne, EachInOrder, came_to_one}
use Rattle.stir_cmd.proofs.OneStateLaws.{one_list, one_state}
use Rattle.stir_cmd.proofs.SameReadings.{SameWorldLaw, one_content, one_ok, same_says, told_of}

-- ---- the state that was read

pub one_start : (files others : Files) → AreOneMap files others → (judging : JudgingView) (name : List ℕ) (mine yours : GoingMaterials) → GoingOf (Some files) judging name mine
    → GoingOf (Some others) judging name yours
    → mine.state ≡ yours.state
one_start files others same judging name mine yours a b =
    one_ok mine.state yours.state (read_state judging.settings.past b.state.content)
    (subst (λ content. read_state judging.settings.past content ≡ Ok mine.state) (one_content files others same (state_file judging.settings.past name) _ _ a.state b.state) a.state.holds.read)
    b.state.holds.read

-- ---- the rounds, as the replay rule sees them

pub one_rows : (settings : Settings) (calls : List Entry) (mine yours : List Outcome) → AllAlike mine yours → AreOneCalls (rows_of settings calls mine) (rows_of settings calls yours)
one_rows settings [] mine yours alike = tt
one_rows settings (call ∷ calls) [] [] alike = tt
one_rows settings (call ∷ calls) [] (yours ∷ others) alike = absurd alike
one_rows settings (call ∷ calls) (mine ∷ more) [] alike = absurd alike
one_rows settings (call ∷ calls) (mine ∷ more) (yours ∷ others) (here, later) =
    (record { number = refl; moment = refl; ticket = refl; last = refl; passes = here.same_passes }, one_rows settings calls more others later)

pub one_moment : (rows others : List Row) → AreOneCalls rows others → first_moment rows ≡ first_moment others
one_moment [] [] same = refl
one_moment [] (other ∷ others) same = absurd same
one_moment (row ∷ rows) [] same = absurd same
one_moment (row ∷ rows) (other ∷ others) (here, more) = here.moment

pub one_rounds : (config : JudgeConfig) (rounds others : List Round) → RoundsAlike rounds others → AreOneRounds (row_rounds config rounds) (row_rounds config others)
one_rounds config [] [] alike = tt
one_rounds config [] (next ∷ others) alike = absurd alike
one_rounds config (here ∷ rounds) [] alike = absurd alike
one_rounds config (here ∷ rounds) (next ∷ others) (calls, alike, more) =
    let rows : AreOneCalls (rows_of config.settings here.calls here.outcomes) (rows_of config.settings next.calls next.outcomes) =
    subst (λ c. AreOneCalls (rows_of config.settings here.calls here.outcomes) (rows_of config.settings c next.outcomes)) calls
    (one_rows config.settings here.calls here.outcomes next.outcomes alike) in (
      one_moment (rows_of config.settings here.calls here.outcomes) (rows_of config.settings next.calls next.outcomes) rows,
      rows,
      one_rounds config rounds others more,
    )

pub each_in_order : (config : JudgeConfig) (rounds : List Round) → AllInOrder config rounds → EachInOrder (row_rounds config rounds)
each_in_order config [] order = tt
each_in_order config (round ∷ rounds) (first, more) = (first, each_in_order config rounds more)

-- ---- the state that is handed on

kept_once : (mine yours : Option Kept) → option_map kept_of_past mine ≡ option_map kept_of_past yours → mine ≡ yours
kept_once None None same = refl
kept_once None (Some yours) same = absurd (none-some (kept_of_past yours) same)
kept_once (Some mine) None same = absurd (none-some (kept_of_past mine) (sym same))
kept_once (Some mine) (Some yours) same =
    let kept = same_Some (kept_of_past mine) (kept_of_past yours) same in
    λ i. Some (record { call = (kept i).call; last = (kept i).last })

pub one_handed : (config : JudgeConfig) (passed also : Passed) (calls others : List Entry) (next other_next : Held) (mine yours : StateView) → passed ≡ also → calls ≡ others → Same next other_next
    → IsHanded config passed calls next mine → IsHanded config also others other_next yours → mine ≡ yours
one_handed config passed also calls others next other_next mine yours same_passed same_calls left a b =
    let call : mine.call ≡ yours.call = a.call ∙ (λ i. last_number (same_passed i).number (same_calls i)) ∙ sym b.call in
    let moment : mine.moment ≡ yours.moment = a.moment ∙ (λ i. last_moment_of (same_passed i).moment (same_calls i)) ∙ sym b.moment in
    let kept : Same (kept_by mine.kept) (kept_by yours.kept) = λ ticket. sym (a.kept ticket) ∙ (λ i. unless_below (moment i) (left ticket i)) ∙ b.kept ticket in
    let entries = one_list None None mine.kept yours.kept a.rules.entries.rise b.rules.entries.rise
    (λ ticket. kept_once (lookup (bytes_eq ticket) mine.kept) (lookup (bytes_eq ticket) yours.kept) (kept ticket)) in
    one_state mine yours (a.window ∙ sym b.window) call moment entries

-- ---- the report

none_aside : (settings : Settings) (workers : ℕ) (materials : Materials) (files : Files) (past : Held) (before now : Outside) (rounds : List Round) (next : Held)
    → AreJudgedOn settings workers materials files past before now rounds next → NotRisen before.counts.faults now.counts.faults → NoneAside (outcomes_in rounds)
none_aside settings workers materials files past before now rounds next judged quiet = record { read = judged.quiet quiet; asked = judged.answered }

module _ (one_log : OneLog) (same_world : SameWorldLaw) (verifying : VerifyingView) (name : List ℕ) (single : verifying.workers ≡ 1) (files others : Files)
    (one_map : AreOneMap files others) (bytes : List ℕ)
    (before now other other_now : Outside) (status other_status : ℕ) (mine : VerifiedOn verifying name files bytes before now status)
    (yours : VerifiedOn verifying name others bytes other other_now other_status) (quiet : NotRisen before.counts.faults now.counts.faults)
    (quiet_other : NotRisen other.counts.faults other_now.counts.faults) where
  read_once : mine.materials.state ≡ yours.materials.state
  read_once = one_start files others one_map verifying.judging name mine.materials yours.materials mine.stands yours.stands

  same_calls : calls_in mine.rounds ≡ calls_in yours.rounds
  same_calls =
      (one_log (start_at mine.materials.state) bytes (calls_in mine.rounds) (calls_in yours.rounds) [] [] mine.log
      (subst (λ (s : StateView). LogText (start_at s) bytes (calls_in yours.rounds) []) (sym read_once) yours.log)).0

  same_first : (entry : Entry) → First (world_by mine.materials.judging files) (call_in (settings_by verifying.judging.settings) entry)
      ≡ First (world_by yours.materials.judging others) (call_in (settings_by verifying.judging.settings) entry)
  same_first entry =
      same_world (world_by mine.materials.judging files) (world_by yours.materials.judging others)
      (same_says files others one_map verifying.judging mine.materials.judging yours.materials.judging mine.stands.judging yours.stands.judging) (call_in (settings_by verifying.judging.settings) entry)

  alike : RoundsAlike mine.rounds yours.rounds
  alike =
      rounds_alike (world_by mine.materials.judging files) (world_by yours.materials.judging others) (settings_by verifying.judging.settings) same_first mine.rounds yours.rounds
      (same_cut mine.rounds yours.rounds mine.judged.cut yours.judged.cut same_calls) mine.judged.each yours.judged.each
      (none_aside (settings_by verifying.judging.settings) verifying.workers mine.materials.judging files (kept_by mine.materials.state.kept) before now mine.rounds mine.next mine.judged quiet)
      (none_aside (settings_by verifying.judging.settings) verifying.workers yours.materials.judging others (kept_by yours.materials.state.kept) other other_now yours.rounds yours.next yours.judged quiet_other)

  came : CameToOne (row_rounds (config_by (settings_by verifying.judging.settings) verifying.workers) mine.rounds)
      (row_rounds (config_by (settings_by verifying.judging.settings) verifying.workers) yours.rounds) mine.next yours.next
  came =
      let config = config_by (settings_by verifying.judging.settings) verifying.workers in
      came_to_one (row_rounds config mine.rounds) (row_rounds config yours.rounds) (kept_by mine.materials.state.kept) mine.next yours.next
      (one_rounds config mine.rounds yours.rounds alike) mine.judged.settled
      (subst (λ (s : StateView). Rounds (kept_by s.kept) (row_rounds config yours.rounds) yours.next) (sym read_once) yours.judged.settled)
      (each_in_order config mine.rounds (mine.judged.in_order single)) (each_in_order config yours.rounds (yours.judged.in_order single))

  same_outcomes : outcomes_in mine.rounds ≡ outcomes_in yours.rounds
  same_outcomes =
      all_same (world_by mine.materials.judging files) (world_by yours.materials.judging others) (config_by (settings_by verifying.judging.settings) verifying.workers) mine.rounds yours.rounds alike
      mine.judged.each yours.judged.each came.answers

  same_state : mine.state ≡ yours.state
  same_state =
      one_handed (config_by (settings_by verifying.judging.settings) verifying.workers) (start_at mine.materials.state) (start_at yours.materials.state) (calls_in mine.rounds) (calls_in yours.rounds)
      mine.next yours.next mine.state yours.state (ap start_at read_once) same_calls came.left mine.handed yours.handed

  same_text : report (yours.materials.state.call + 1) (outcomes_in yours.rounds) ++ state_text yours.state
      ≡ report (mine.materials.state.call + 1) (outcomes_in mine.rounds) ++ state_text mine.state
  same_text = sym (λ i. report ((read_once i).call + 1) (same_outcomes i) ++ state_text (same_state i))

  one_report_on : AreOneReport before now status other other_now other_status
  one_report_on = record {
    text = report (mine.materials.state.call + 1) (outcomes_in mine.rounds) ++ state_text mine.state;
    written = mine.reported;
    other_written = subst (Appends other.written other_now.written) same_text yours.reported;
    same_status = mine.said ∙ ap (λ outcomes. report_status (all_valid outcomes)) same_outcomes ∙ sym yours.said;
  }

gives_by : OneLog → SameWorldLaw → (verifying : VerifyingView) (name : List ℕ) → verifying.state ≡ Some name → verifying.workers ≡ 1 → (before now : Outside) (status : ℕ) (told : Option Files) (left : Option (List ℕ))
    → NotRisen before.counts.faults now.counts.faults → IfTold told left (λ files bytes. VerifiedOn verifying name files bytes before now status)
    → IfTold told left (λ files bytes. IsOneReportOn verifying files bytes before now status)
gives_by one_log same_world verifying name named single before now status None left quiet said = tt
gives_by one_log same_world verifying name named single before now status (Some files) None quiet said = tt
gives_by one_log same_world verifying name named single before now status (Some files) (Some bytes) quiet said = record {
  same = λ other other_now other_status ran.
      one_report_on one_log same_world verifying name single files ran.others ran.same_files bytes before now other other_now status other_status said
      (told_of (VerifiedOn verifying name) ran.others bytes other other_now other_status ran.told ran.same_log
      (subst (λ (x : Option (List ℕ)). IfTold other.files other.left (VerifiedFrom verifying x other other_now other_status)) named (ran.headline ran.done))) quiet ran.quiet;
}

-- if a state is named
pub with_state : OneLog → SameWorldLaw → (verifying : VerifyingView) (name : List ℕ) → verifying.state ≡ Some name → (before now : Outside) (status : ℕ)
    → (status ≤ 1 → IfTold before.files before.left (VerifiedFrom verifying (Some name) before now status)) → GivesOneFrom verifying (Some name) before now status
with_state one_log same_world verifying name named before now status said =
    λ single done quiet. gives_by one_log same_world verifying name named single before now status before.files before.left quiet (said done)
