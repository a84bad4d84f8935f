-- Two runs of `verify` on one worker over the same files, as a map, and over logs of which one goes on from the other give one report of the calls of both.
use Rattle.std.proofs.Common.{◌≡◌, inl, inr, ℕ, ◌+◌, Bool, List, [], ◌∷◌, ◌++◌, Option, Some, None, refl, sym, ◌∙◌, ap, subst, arith, append_assoc}
use Rattle.std.specs.Io.KnownBytes.{Appends}
use Rattle.std.specs.Option.{option_map, option_or}
use Rattle.call_log.specs.Entry.{Entry}
use Rattle.call_log.specs.HandsOut.{OneLog}
use Rattle.call_log.specs.Log.{LogText, Passed, after_all, entry_texts}
use Rattle.log_rounds.proofs.RoundLaws.{as_many}
use Rattle.log_rounds.specs.AllValid.{all_valid}
use Rattle.log_rounds.specs.Answers.{Answers}
use Rattle.log_rounds.specs.Judge.{JudgeConfig}
use Rattle.log_rounds.specs.Rounds.{Round, calls_in, outcomes_in, row_rounds}
use Rattle.log_run.specs.Ending.{refused_line, report_status}
use Rattle.replay_law.specs.Held.{Held, Same}
use Rattle.state_text.specs.StateText.{state_text}
use Rattle.stir_files.specs.Event.{event_line}
use Rattle.stir_files.specs.Named.{NamedFile, Stop, fault_in, first_fault}
use Rattle.stir_outside.specs.Count.{NotRisen}
use Rattle.stir_outside.specs.Files.{Files}
use Rattle.stir_words.specs.Order.{OrderView, VerifyBy, VerifyingView}
use Rattle.verify_rules.specs.World.{First, World}
use Rattle.verify_service.specs.Handing.{kept_by}
use Rattle.verify_service.specs.Judging.{call_in}
use Rattle.verify_service.specs.Report.{report}
use Rattle.stir_cmd.specs.Calls.{config_by, settings_by, world_by}
use Rattle.stir_cmd.specs.Causes.{HasCauses}
use Rattle.stir_cmd.specs.OnePrefix.{AreOnePrefix, ClosedBy, EndAlike, EndsSo, GivesOnePrefix, GoesOn, HasReport, IsOneBeginning, IsOnePrefix, IsOneStop, Reported, named_by}
use Rattle.stir_cmd.specs.OneReport.{AreOneMap, AreOneReport}
use Rattle.stir_cmd.specs.Outside.{IfTold, Outside}
use Rattle.stir_cmd.specs.Verifying.{start_at}
use Rattle.stir_cmd.proofs.AnswersAlike.{all_same, rounds_alike, same_cut}
use Rattle.stir_cmd.proofs.FewReadsLaws.{begins_by}
use Rattle.stir_cmd.proofs.OneGoingLaws.{came_to_one}
use Rattle.stir_cmd.proofs.OneReportOnLaws.{each_in_order, one_handed, one_rounds, one_start}
use Rattle.stir_cmd.proofs.PrefixRoundsLaws.{InTurn, first_of}
use Rattle.stir_cmd.proofs.PrefixRunLaws.{IsFrom, Known, known_from, stopped_from}
use Rattle.stir_cmd.proofs.SameReadings.{SameWorldLaw, same_says}

-- ---- of two lists of rounds

-- the shorter log's outcomes come first
goes_on : OneLog → (world also : World) (config : JudgeConfig) → ((entry : Entry) → First world (call_in config.settings entry) ≡ First also (call_in config.settings entry)) → (passed : Passed)
    (past next other_next : Held) (rounds others : List Round) (bytes rest all behind : List ℕ) → LogText passed bytes (calls_in rounds) rest → LogText passed all (calls_in others) behind
    → InTurn world config past rounds next → InTurn also config past others other_next → GoesOn bytes (outcomes_in rounds) all (outcomes_in others)
goes_on law world also config same passed past next other_next rounds others bytes rest all behind mine yours turn other_turn = λ more is.
    let found = begins_by law passed (calls_in others) (calls_in rounds) behind (rest ++ more) yours.follow yours.longest mine.follow
    (sym yours.text ∙ is ∙ ap (λ b. b ++ more) mine.text ∙ append_assoc (entry_texts (calls_in rounds)) rest more) in
    first_of world also config same past next other_next rounds others found.0 turn other_turn found.1

-- the same calls have the same outcomes, and leave the same
pub record SameAll (rounds others : List Round) (next other_next : Held) : Type 0 where
  pub outcomes : outcomes_in rounds ≡ outcomes_in others
  pub left : Same next other_next

same_all : (world also : World) (config : JudgeConfig) → ((entry : Entry) → First world (call_in config.settings entry) ≡ First also (call_in config.settings entry))
    → (past next other_next : Held) (rounds others : List Round) → calls_in rounds ≡ calls_in others → InTurn world config past rounds next → InTurn also config past others other_next
    → SameAll rounds others next other_next
same_all world also config same past next other_next rounds others calls mine yours =
    let alike = rounds_alike world also config.settings same rounds others (same_cut rounds others mine.cut yours.cut calls) mine.each yours.each mine.aside yours.aside in
    let came = came_to_one (row_rounds config rounds) (row_rounds config others) past next other_next (one_rounds config rounds others alike) mine.settled yours.settled
    (each_in_order config rounds mine.in_order) (each_in_order config others yours.in_order) in
    record { outcomes = all_same world also config rounds others alike mine.each yours.each came.answers; left = came.left }

-- ---- from where, and what closes the report

pub record OneFrom (passed other_passed : Passed) (past other_past : Held) (calls others : List Entry) (next other_next : Held) (closing other_closing : List ℕ) : Type 0 where
  pub passed_once : passed ≡ other_passed
  pub past_once : past ≡ other_past
  pub closing_once : calls ≡ others → Same next other_next → closing ≡ other_closing

one_from : (verifying : VerifyingView) (state : Option (List ℕ)) (files others : Files) → AreOneMap files others → (passed other_passed : Passed) (past other_past : Held) (calls other_calls : List Entry)
    (next other_next : Held) (closing other_closing : List ℕ) → IsFrom verifying state files passed past calls next closing → IsFrom verifying state others other_passed other_past other_calls other_next other_closing
    → OneFrom passed other_passed past other_past calls other_calls next other_next closing other_closing
one_from verifying None files others same passed other_passed past other_past calls other_calls next other_next closing other_closing a b = record {
  passed_once = a.passed_is ∙ sym b.passed_is;
  past_once = a.past_is ∙ sym b.past_is;
  closing_once = λ c n. a.none ∙ sym b.none;
}
one_from verifying (Some name) files others same passed other_passed past other_past calls other_calls next other_next closing other_closing a b =
    let read = one_start files others same verifying.judging name a.going b.going a.stands b.stands in
    let from : passed ≡ other_passed = a.passed_is ∙ ap start_at read ∙ sym b.passed_is in
    record {
      passed_once = from;
      past_once = a.past_is ∙ ap (λ s. kept_by s.kept) read ∙ sym b.past_is;
      closing_once = λ c n.
          a.text_is ∙ ap state_text (one_handed (config_by (settings_by verifying.judging.settings) verifying.workers) passed other_passed calls other_calls next other_next a.state b.state from c n a.handed b.handed)
          ∙ sym b.text_is;
    }

closed_by : (verifying : VerifyingView) (state : Option (List ℕ)) (files : Files) (passed : Passed) (past : Held) (calls : List Entry) (next : Held) (closing : List ℕ)
    → IsFrom verifying state files passed past calls next closing → ClosedBy state closing
closed_by verifying None files passed past calls next closing from = from.none
closed_by verifying (Some name) files passed past calls next closing from = (from.state, from.text_is)

-- both ended with one status
one_status : (log other_log : List ℕ) (left other_left : Option (List ℕ)) (bytes other_bytes : List ℕ) (good other_good : Bool) (place other_place status other_status : ℕ) (line other_line : List ℕ)
    → EndsSo log left bytes good place status line → EndsSo other_log other_left other_bytes other_good other_place other_status other_line → good ≡ other_good → EndAlike status other_status
    → status ≡ other_status
one_status log other_log left other_left bytes other_bytes good other_good place other_place status other_status line other_line a b valid (inr same) = same
one_status log other_log left other_left bytes other_bytes good other_good place other_place status other_status line other_line (inl a) (inl b) valid (inl low) = a.said ∙ ap report_status valid ∙ sym b.said
one_status log other_log left other_left bytes other_bytes good other_good place other_place status other_status line other_line (inl a) (inr (inl b)) valid (inl low) = absurd (omega (arith, low.1, b.failed))
one_status log other_log left other_left bytes other_bytes good other_good place other_place status other_status line other_line (inl a) (inr (inr b)) valid (inl low) = absurd (omega (arith, low.1, b.refused))
one_status log other_log left other_left bytes other_bytes good other_good place other_place status other_status line other_line (inr (inl a)) b valid (inl low) = absurd (omega (arith, low.0, a.failed))
one_status log other_log left other_left bytes other_bytes good other_good place other_place status other_status line other_line (inr (inr a)) b valid (inl low) = absurd (omega (arith, low.0, a.refused))

-- the line of the fault is told by the status and the place
one_line : (log other_log : List ℕ) (left other_left : Option (List ℕ)) (bytes other_bytes : List ℕ) (good other_good : Bool) (place other_place status other_status : ℕ) (line other_line : List ℕ)
    → EndsSo log left bytes good place status line → EndsSo other_log other_left other_bytes other_good other_place other_status other_line → status ≡ other_status → place ≡ other_place
    → line ≡ other_line
one_line log other_log left other_left bytes other_bytes good other_good place other_place status other_status line other_line (inl a) (inl b) same there = a.none ∙ sym b.none
one_line log other_log left other_left bytes other_bytes good other_good place other_place status other_status line other_line (inl a) (inr (inl b)) same there = absurd (omega (arith, a.done, b.failed, same))
one_line log other_log left other_left bytes other_bytes good other_good place other_place status other_status line other_line (inl a) (inr (inr b)) same there = absurd (omega (arith, a.done, b.refused, same))
one_line log other_log left other_left bytes other_bytes good other_good place other_place status other_status line other_line (inr (inl a)) (inl b) same there = absurd (omega (arith, a.failed, b.done, same))
one_line log other_log left other_left bytes other_bytes good other_good place other_place status other_status line other_line (inr (inl a)) (inr (inl b)) same there = a.says ∙ sym b.says
one_line log other_log left other_left bytes other_bytes good other_good place other_place status other_status line other_line (inr (inl a)) (inr (inr b)) same there = absurd (omega (arith, a.failed, b.refused, same))
one_line log other_log left other_left bytes other_bytes good other_good place other_place status other_status line other_line (inr (inr a)) (inl b) same there = absurd (omega (arith, a.refused, b.done, same))
one_line log other_log left other_left bytes other_bytes good other_good place other_place status other_status line other_line (inr (inr a)) (inr (inl b)) same there = absurd (omega (arith, a.refused, b.failed, same))
one_line log other_log left other_left bytes other_bytes good other_good place other_place status other_status line other_line (inr (inr a)) (inr (inr b)) same there = a.says ∙ ap refused_line there ∙ sym b.says

-- ---- of two runs

reported : (verifying : VerifyingView) (files : Files) (log : List ℕ) (before now : Outside) (status : ℕ) → Known verifying verifying.state files log before now status
    → Reported verifying log before now status
reported verifying files log before now status k = record {
  passed = k.passed;
  bytes = k.bytes;
  calls = calls_in k.rounds;
  rest = k.rest;
  log_is = k.log_is;
  outcomes = outcomes_in k.rounds;
  one_each = as_many (Answers (world_by k.materials files) (settings_by verifying.judging.settings)) k.rounds k.turn.each;
  closing = k.closing;
  closed = closed_by verifying verifying.state files k.passed k.past (calls_in k.rounds) k.next k.closing k.from;
  line = k.line;
  ends = k.ends;
  written = k.written;
}

module _ (law : OneLog) (same_world : SameWorldLaw) (verifying : VerifyingView) (files others : Files) (one_map : AreOneMap files others) (log other_log : List ℕ)
    (before now other other_now : Outside) (status other_status : ℕ) (mine : Known verifying verifying.state files log before now status)
    (yours : Known verifying verifying.state others other_log other other_now other_status) where
  from : OneFrom mine.passed yours.passed mine.past yours.past (calls_in mine.rounds) (calls_in yours.rounds) mine.next yours.next mine.closing yours.closing
  from =
      one_from verifying verifying.state files others one_map mine.passed yours.passed mine.past yours.past (calls_in mine.rounds) (calls_in yours.rounds) mine.next yours.next mine.closing
      yours.closing mine.from yours.from

  same_first : (entry : Entry) → First (world_by mine.materials files) (call_in (settings_by verifying.judging.settings) entry)
      ≡ First (world_by yours.materials others) (call_in (settings_by verifying.judging.settings) entry)
  same_first entry =
      same_world (world_by mine.materials files) (world_by yours.materials others) (same_says files others one_map verifying.judging mine.materials yours.materials mine.stands yours.stands)
      (call_in (settings_by verifying.judging.settings) entry)

  -- the other's log and rounds, from where this one goes on
  there : LogText mine.passed yours.bytes (calls_in yours.rounds) yours.rest
  there = subst (λ (p : Passed). LogText p yours.bytes (calls_in yours.rounds) yours.rest) (sym from.passed_once) yours.log_is

  turn_there : InTurn (world_by yours.materials others) (config_by (settings_by verifying.judging.settings) verifying.workers) mine.past yours.rounds yours.next
  turn_there =
      subst (λ (h : Held). InTurn (world_by yours.materials others) (config_by (settings_by verifying.judging.settings) verifying.workers) h yours.rounds yours.next) (sym from.past_once) yours.turn

  first : GoesOn mine.bytes (outcomes_in mine.rounds) yours.bytes (outcomes_in yours.rounds)
  first =
      goes_on law (world_by mine.materials files) (world_by yours.materials others) (config_by (settings_by verifying.judging.settings) verifying.workers) same_first mine.passed mine.past
      mine.next yours.next mine.rounds yours.rounds mine.bytes mine.rest yours.bytes yours.rest mine.log_is there mine.turn turn_there

  turned : GoesOn yours.bytes (outcomes_in yours.rounds) mine.bytes (outcomes_in mine.rounds)
  turned =
      goes_on law (world_by yours.materials others) (world_by mine.materials files) (config_by (settings_by verifying.judging.settings) verifying.workers) (λ entry. sym (same_first entry)) mine.passed
      mine.past yours.next mine.next yours.rounds mine.rounds yours.bytes yours.rest mine.bytes mine.rest there mine.log_is turn_there mine.turn

  same_calls : mine.bytes ≡ yours.bytes → calls_in mine.rounds ≡ calls_in yours.rounds
  same_calls bytes =
      (law mine.passed yours.bytes (calls_in mine.rounds) (calls_in yours.rounds) mine.rest yours.rest
      (subst (λ b. LogText mine.passed b (calls_in mine.rounds) mine.rest) bytes mine.log_is) there).0

  one_report : mine.bytes ≡ yours.bytes → EndAlike status other_status → AreOneReport before now status other other_now other_status
  one_report bytes ended =
      let calls = same_calls bytes in
      let all = same_all (world_by mine.materials files) (world_by yours.materials others) (config_by (settings_by verifying.judging.settings) verifying.workers) same_first mine.past mine.next
      yours.next mine.rounds yours.rounds calls mine.turn turn_there in
      let outcomes : outcomes_in mine.rounds ≡ outcomes_in yours.rounds = all.outcomes in
      let passed : mine.passed ≡ yours.passed = from.passed_once in
      let closing : mine.closing ≡ yours.closing = from.closing_once calls all.left in
      let same =
      one_status log other_log now.left other_now.left mine.bytes yours.bytes (all_valid (outcomes_in mine.rounds)) (all_valid (outcomes_in yours.rounds))
      (after_all mine.passed (calls_in mine.rounds)).place (after_all yours.passed (calls_in yours.rounds)).place status other_status mine.line yours.line mine.ends yours.ends
      (ap all_valid outcomes) ended in
      let line : mine.line ≡ yours.line =
      one_line log other_log now.left other_now.left mine.bytes yours.bytes (all_valid (outcomes_in mine.rounds)) (all_valid (outcomes_in yours.rounds))
      (after_all mine.passed (calls_in mine.rounds)).place (after_all yours.passed (calls_in yours.rounds)).place status other_status mine.line yours.line mine.ends yours.ends same
      (λ i. (after_all (passed i) (calls i)).place) in
      record {
        text = report (mine.passed.number + 1) (outcomes_in mine.rounds) ++ (mine.closing ++ mine.line);
        written = mine.written;
        other_written = subst (Appends other.written other_now.written) (sym (λ i. report ((passed i).number + 1) (outcomes i) ++ (closing i ++ line i))) yours.written;
        same_status = same;
      }

  one_prefix : AreOnePrefix verifying log before now status (reported verifying files log before now status mine) other_log other other_now other_status
  unfolding reported
  one_prefix = record { yours = reported verifying others other_log other other_now other_status yours; from = from.passed_once; first = first; turned = turned; same = one_report }

-- ---- the clause

-- files that are the same as maps have one first fault
same_fault : (files others : Files) → AreOneMap files others → (named : List NamedFile) → first_fault files named ≡ first_fault others named
same_fault files others same [] = refl
same_fault files others same (n ∷ named) =
    let here = ap (λ content. option_map (λ fault. record { name = n.name; fault = fault }) (fault_in n content)) (same n.name) in
    let later = same_fault files others same named in
    λ i. option_or (here i) (later i)

module _ (law : OneLog) (same_world : SameWorldLaw) (verifying : VerifyingView) (single : verifying.workers ≡ 1) (before now : Outside) (status : ℕ)
    (causes : HasCauses (Some (VerifyBy verifying)) before now status) (ended : HasReport status) (quiet : NotRisen before.counts.faults now.counts.faults) where
  judged : (files : Files) (log : List ℕ) → before.files ≡ Some files → before.left ≡ Some log → first_fault files (named_by verifying.judging verifying.state) ≡ None
      → IsOnePrefix verifying files log before now status
  judged files log is is_log none =
      let mine = known_from verifying single files log before now status is is_log quiet verifying.state none causes.done causes.read causes.input ended in
      record {
        mine = reported verifying files log before now status mine;
        with_each = λ other_log other other_now other_status ran.
            one_prefix law same_world verifying files ran.others ran.same_files log other_log before now other other_now status other_status mine
            (known_from verifying single ran.others other_log other other_now other_status ran.told ran.told_log ran.quiet verifying.state
            (sym (same_fault files ran.others ran.same_files (named_by verifying.judging verifying.state)) ∙ none) ran.causes.done ran.causes.read ran.causes.input ran.ended);
      }

  stopped : (files : Files) (log : List ℕ) → before.files ≡ Some files → before.left ≡ Some log → (stop : Stop) → first_fault files (named_by verifying.judging verifying.state) ≡ Some stop
      → IsOneStop verifying files before now status
  stopped files log is is_log stop found =
      let mine = stopped_from verifying single files log before now status is is_log quiet verifying.state stop found causes.done causes.read causes.input ended in
      record {
        refused = mine.0;
        with_each = λ other_log other other_now other_status ran.
            let yours = stopped_from verifying single ran.others other_log other other_now other_status ran.told ran.told_log ran.quiet verifying.state stop
            (sym (same_fault files ran.others ran.same_files (named_by verifying.judging verifying.state)) ∙ found) ran.causes.done ran.causes.read ran.causes.input ran.ended in
            record { text = event_line stop.name stop.fault; written = mine.1; other_written = yours.1; same_status = mine.0 ∙ sym yours.0 };
      }

  gives_by : (told : Option Files) (left : Option (List ℕ)) → before.files ≡ told → before.left ≡ left → IfTold told left (IsOneBeginning verifying before now status)
  gives_by None left is is_log = tt
  gives_by (Some files) None is is_log = tt
  gives_by (Some files) (Some log) is is_log = record { judged = judged files log is is_log; stopped = stopped files log is is_log }

pub gives_one_prefix : OneLog → SameWorldLaw → (order : Option OrderView) (before now : Outside) (status : ℕ) → HasCauses order before now status → GivesOnePrefix order before now status
gives_one_prefix law same_world (Some (VerifyBy verifying)) before now status causes =
    λ single ended quiet. gives_by law same_world verifying single before now status causes ended quiet before.files before.left refl refl
gives_one_prefix law same_world other before now status causes = _
