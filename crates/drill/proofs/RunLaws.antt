-- What the drill came to.
use Rattle.std.proofs.Common.{◌≡◌, ◌≢◌, ◌⊎◌, inl, inr, ℕ, zero, suc, ◌==◌, ◌≤◌, ◌<◌, Bool, true, false, List, [], ◌∷◌, ◌++◌, length, Option, Some, None, refl, sym, ◌∙◌, ap, subst, arith, append_assoc, append-nil, length-append}
use Rattle.std.proofs.lemmas.Bool.{eqb-true}
use Rattle.std.specs.Io.KnownBytes.{Appends}
use Rattle.call_log.proofs.HeaderLaws.{headed_some}
use Rattle.call_log.specs.Entry.{Entry, entry_text}
use Rattle.call_log.specs.HandsOut.{NoLongerLog, OneLog}
use Rattle.call_log.specs.Log.{AreCalls, IsNext, LogText, NoEntry, Passed, after, after_all, entry_texts, start}
use Rattle.drill.specs.Counts.{no_counts, summary_of, with_all}
use Rattle.drill.specs.Summary.{summary}
use Rattle.drill.specs.Files.{FilesOf}
use Rattle.drill.specs.declared.files.DrillFiles.{DrillFiles}
use Rattle.drill.specs.Command.{closing_text}
use Rattle.drill.specs.Drilled.{AnswersIn, DrillRan, IsSummary, JudgedDrill, MaySumUp, WroteFront, WroteShort, WroteSummary, config_on}
use Rattle.drill.specs.Speaking.{AreCounted, ClosesCounted, drill_words}
use Rattle.lists.proofs.Bytes.{same_byte}
use Rattle.log_rounds.specs.Judge.{outside_counts}
use Rattle.log_rounds.specs.Rounds.{InEach, Round, calls_in as calls_of_rounds, outcomes_in}
use Rattle.log_rounds.proofs.RoundLaws.{one_for_each}
use Rattle.log_run.specs.Batch.{Batch, IsCut, calls_in}
use Rattle.log_run.specs.Ending.{report_status}
use Rattle.log_run.specs.Reading.{IsFaulty, ReadCalls}
use Rattle.log_run.specs.Streams.{streams}
use Rattle.log_run.specs.Words.{DoneReport, FrontReport, LogSays, MayComeAfter, MayEndWith, PartLog, RunState, ShortReport, Words, run_state}
use Rattle.stir_drill.specs.Calls.{call_at, calls_of, log_of}
use Rattle.stir_outside.specs.Count.{NotRisen, Rose, last_count}
use Rattle.stir_outside.specs.Ending.{EndsAs, memory_line}
use Rattle.stir_outside.specs.Told.{AppendsFront}
use Rattle.verify_service.specs.declared.outcome.Outcome.{Outcome}

-- ---- counts of faults that are 0

none_risen : NotRisen 0 0
none_risen = record { same = refl; below_last = λ e. absurd (omega (arith, e)) }

never_rose : Rose 0 0 → ⊥
never_rose rose = let less : 0 < 0 = rose (λ e. absurd (omega (arith, e))) in omega (arith, less)

-- ---- the calls of the log

call_count : (seed count : ℕ) → length (calls_of seed count) ≡ count
unfolding calls_of
call_count seed zero = refl
call_count seed (suc n) = let below = call_count seed n in omega (arith, below, length-append (calls_of seed n) (call_at seed (suc n) ∷ []))

calls_more : (passed : Passed) (calls : List Entry) (call : Entry) → AreCalls passed calls → IsNext (after_all passed calls) call → AreCalls passed (calls ++ call ∷ [])
calls_more passed [] call are next = (next, tt)
calls_more passed (first ∷ calls) call are next = (are.0, calls_more (after passed first) calls call are.1 next)

texts_more : (calls : List Entry) (call : Entry) (rest : List ℕ) → entry_texts calls ++ (entry_text call ++ rest) ≡ entry_texts (calls ++ call ∷ []) ++ rest
texts_more [] call rest = ap (λ x. x ++ rest) (sym (append-nil (entry_text call)))
texts_more (first ∷ calls) call rest =
    append_assoc (entry_text first) (entry_texts calls) (entry_text call ++ rest) ∙ ap (λ x. entry_text first ++ x) (texts_more calls call rest)
    ∙ sym (append_assoc (entry_text first) (entry_texts (calls ++ call ∷ [])) rest)

-- the first calls of a whole log, if they are as many as it has, are all of them
all_of : OneLog → NoLongerLog → (passed : Passed) (bytes : List ℕ) (calls all : List Entry) (rest : List ℕ) → LogText passed bytes all [] → AreCalls passed calls → bytes ≡ entry_texts calls ++ rest
    → length calls ≡ length all → calls ≡ all
all_of one no_longer passed bytes calls all rest whole are text size =
    let none : NoEntry (after_all passed calls) rest = λ call behind next begins.
    (let more = no_longer passed bytes all (calls ++ call ∷ []) [] behind whole (calls_more passed calls call are next) (text ∙ ap (λ x. entry_texts calls ++ x) begins ∙ texts_more calls call behind) in
    let longer = length-append calls (call ∷ []) in
    absurd (omega (arith, more, longer, size))) in
    (one passed bytes calls all rest [] (record { text = text; follow = are; longest = none }) whole).0

as_many : (P : Entry → Outcome → Type 0) (rounds : List Round) → InEach P rounds → length (outcomes_in rounds) ≡ length (calls_of_rounds rounds)
as_many P [] each = refl
as_many P (round ∷ rounds) each =
    let here = one_for_each P round.calls round.outcomes each.0 in
    let below = as_many P rounds each.1 in
    omega (arith, here, below, length-append round.outcomes (outcomes_in rounds), length-append round.calls (calls_of_rounds rounds))

faulty_some : (passed : Passed) (place : ℕ) (rest : List ℕ) → IsFaulty passed place rest → rest ≢ []
faulty_some passed place rest (inl g) = g.some
faulty_some passed place rest (inr (inl b)) = λ e. headed_some b.backward.moment b.backward.said b.backward.behind (sym b.backward.text ∙ e)
faulty_some passed place rest (inr (inr m)) = m.some

-- ---- the summary of all calls

module _ (one : OneLog) (no_longer : NoLongerLog) (summed : (outcomes : List Outcome) → length outcomes ≤ last_count → summary_of (with_all no_counts outcomes) ≡ summary outcomes)
    (counted : (outcomes : List Outcome) → length outcomes ≤ last_count → (with_all no_counts outcomes).calls ≡ length outcomes)
    (seed count workers : ℕ) (few : count ≤ 100000) (files : DrillFiles) (files_are : FilesOf seed count files) (whole : LogText (start 0 0) (log_of seed count) (calls_of seed count) [])
    (reads reads_now : ℕ) where
  abbrev words : Words
  words = drill_words (AnswersIn files) (config_on workers) (start 0 0) (outside_counts 0 0 reads) (outside_counts 0 0 reads_now) count

  abbrev Are : List Batch → List Round → Type 0
  Are batches rounds = AreCounted (AnswersIn files) (config_on workers) (outside_counts 0 0 reads) (outside_counts 0 0 reads_now) batches rounds

  judged_of : (batches : List Batch) (rounds : List Round) → Are batches rounds → calls_in batches ≡ calls_of seed count → JudgedDrill seed count workers (outcomes_in rounds)
  judged_of batches rounds are calls = record {
    files = files;
    files_are = files_are;
    rounds = rounds;
    come = refl;
    cut = are.are_judged.cut;
    calls = sym are.calls ∙ calls;
    each = are.are_judged.each;
    legal = are.are_judged.legal;
    read = are.are_judged.aside.quiet_shelf none_risen;
    asked = are.are_judged.aside.quiet_provider none_risen;
  }

  outcome_count : (batches : List Batch) (rounds : List Round) → Are batches rounds → length (outcomes_in rounds) ≡ length (calls_in batches)
  outcome_count batches rounds are = as_many (AnswersIn files) rounds are.are_judged.each ∙ ap length (sym are.calls)

  closing_is : (outcomes : List Outcome) → length outcomes ≡ count → closing_text (with_all no_counts outcomes) count ≡ summary outcomes
  closing_is outcomes size =
      let room : length outcomes ≤ last_count = omega (arith, size, few) in
      let calls : (with_all no_counts outcomes).calls ≡ count = counted outcomes room ∙ size in
      let test : ((with_all no_counts outcomes).calls == count) ≡ true = ap (λ n. n == count) calls ∙ same_byte count in
      rw test (summed outcomes room)

  summary_of_all : (batches : List Batch) (rounds : List Round) (text : List ℕ) → Are batches rounds → calls_in batches ≡ calls_of seed count
      → text ≡ closing_text (with_all no_counts (outcomes_in rounds)) count → IsSummary seed count workers text
  summary_of_all batches rounds text are calls is =
      let size = outcome_count batches rounds are ∙ ap length calls ∙ call_count seed count in
      record { outcomes = outcomes_in rounds; judged = judged_of batches rounds are calls; says = is ∙ closing_is (outcomes_in rounds) size }

  may_by : (batches : List Batch) (rounds : List Round) (text : List ℕ) (t : Bool) → ((with_all no_counts (outcomes_in rounds)).calls == count) ≡ t → Are batches rounds
      → AreCalls (start 0 0) (calls_in batches) → (rest : List ℕ) → log_of seed count ≡ entry_texts (calls_in batches) ++ rest
      → text ≡ closing_text (with_all no_counts (outcomes_in rounds)) count → MaySumUp seed count workers text
  may_by batches rounds text false test are follow rest split is = inl (is ∙ rw test refl)
  may_by batches rounds text true test are follow rest split is =
      let size = outcome_count batches rounds are in
      let most = no_longer (start 0 0) (log_of seed count) (calls_of seed count) (calls_in batches) [] rest whole follow split in
      let all = call_count seed count in
      let room : length (outcomes_in rounds) ≤ last_count = omega (arith, size, most, all, few) in
      let same : length (calls_in batches) ≡ length (calls_of seed count) = sym size ∙ sym (counted (outcomes_in rounds) room) ∙ eqb-true (with_all no_counts (outcomes_in rounds)).calls count test ∙ sym all in
      inr (summary_of_all batches rounds text are (all_of one no_longer (start 0 0) (log_of seed count) (calls_in batches) (calls_of seed count) rest whole follow split same) is)

  -- the text that closed a report of the first calls
  may_at : (batches : List Batch) (text : List ℕ) (left : Option (List ℕ)) (mid : Passed) → ReadCalls (start 0 0) (Some (log_of seed count)) left mid (calls_in batches)
      → IsCut 256 batches → ClosesCounted (AnswersIn files) (config_on workers) (start 0 0) (outside_counts 0 0 reads) (outside_counts 0 0 reads_now) count batches text
      → MaySumUp seed count workers text
  may_at batches text None mid read cut c = absurd read.consumed
  may_at batches text (Some rest) mid read cut c =
      may_by batches c.rounds text ((with_all no_counts (outcomes_in c.rounds)).calls == count) refl (c.are (record { cut = cut; follow = read.follow })) read.follow rest read.consumed c.text_is

  -- ---- each status

  module _ (written written_now left_now : Option (List ℕ)) (faults faults_now status : ℕ) where
    abbrev before : RunState
    before = run_state (Some (log_of seed count)) (streams 0 written faults)

    abbrev now : RunState
    now = run_state left_now (streams 0 written_now faults_now)

    wrote_summary : DoneReport words (start 0 0) before now status → WroteSummary seed count workers written written_now
    wrote_summary d =
        let calls = (one (start 0 0) (log_of seed count) (calls_in d.batches) (calls_of seed count) [] [] d.log whole).0 in
        let are = d.closes.are (record { cut = d.answered.cut; follow = d.log.follow }) in
        record {
          text = d.text;
          is = summary_of_all d.batches d.closes.rounds d.text are calls d.closes.text_is;
          reported = subst (λ t. Appends written written_now (t ++ d.text)) are.silent d.reported;
        }

    no_part : (calls : List Entry) (place : ℕ) → PartLog (start 0 0) (log_of seed count) calls place → ⊥
    no_part calls place part =
        faulty_some (after_all (start 0 0) calls) place part.rest part.fault (sym (one (start 0 0) (log_of seed count) (calls_of seed count) calls [] part.rest whole part.log).1)

    ends_by : (calls : List Entry) (line : List ℕ) → MayEndWith (start 0 0) before now calls line → (line ≡ []) ⊎ (line ≡ memory_line)
    ends_by calls line (inl none) = inl none
    ends_by calls line (inr (inl memory)) = inr memory
    ends_by calls line (inr (inr (inl failed))) = absurd (never_rose failed.1.failed)
    ends_by calls line (inr (inr (inr refused))) = absurd (no_part calls refused.0 refused.2)

    front_by : (f : FrontReport words (start 0 0) before now) (line : List ℕ) → MayComeAfter words (start 0 0) before now f.batches line → AppendsFront written written_now line
        → WroteFront seed count workers written written_now faults faults_now
    front_by f line (inl none) front = record { failed = f.failed; text = []; may = inl refl; end = []; may_end = inl refl; front = subst (AppendsFront written written_now) none front }
    front_by f line (inr (inl memory)) front =
        record { failed = f.failed; text = []; may = inl refl; end = memory_line; may_end = inr refl; front = subst (AppendsFront written written_now) memory front }
    front_by f line (inr (inr (inl stopped))) front = absurd stopped.stops
    front_by f line (inr (inr (inr c))) front = record {
      failed = f.failed;
      text = c.text;
      may = may_at f.batches c.text f.answered.first.mid_left f.answered.first.mid f.answered.first.read f.answered.cut c.closes;
      end = c.end;
      may_end = ends_by (calls_in f.batches) c.end c.may_end;
      front = subst (AppendsFront written written_now) c.says front;
    }

    wrote_front : FrontReport words (start 0 0) before now → WroteFront seed count workers written written_now faults faults_now
    wrote_front f = front_by f f.line f.may_come (subst (λ t. AppendsFront written written_now (t ++ f.line)) f.answered.known.are.silent f.front)

    short_by : (h : ShortReport words (start 0 0) before now) → (h.text ≡ []) ⊎ words.Closes h.batches h.text → MaySumUp seed count workers h.text
    short_by h (inl none) = inl none
    short_by h (inr c) = may_at h.batches h.text h.answered.first.mid_left h.answered.first.mid h.answered.first.read h.answered.cut c

    wrote_short : ShortReport words (start 0 0) before now → WroteShort seed count workers written written_now
    wrote_short h = record {
      text = h.text;
      may = short_by h h.may_close;
      reported = subst (λ t. Appends written written_now (t ++ (h.text ++ memory_line))) h.answered.known.are.silent h.reported;
    }

    is_zero : DoneReport words (start 0 0) before now status → status ≡ 0
    is_zero d = d.said ∙ ap report_status d.answered.known.are.well

    not_three : LogSays words (start 0 0) before now status → status ≢ 3
    not_three says e =
        elim (says.fails e) [
          | inl failed ↦ never_rose failed.taken.failed
          | inr stopped ↦ stopped.stopped.stops
        ]

    not_five : LogSays words (start 0 0) before now status → status ≢ 5
    not_five says e = let p = says.refuses e in no_part (calls_in p.batches) p.place p.part

    which : (n : ℕ) → status ≡ n → LogSays words (start 0 0) before now status → n ≤ 6 → (status ≡ 0) ⊎ ((status ≡ 4) ⊎ (status ≡ 6))
    which zero e says low = inl e
    which (suc zero) e says low = inl (is_zero (says.done (omega (arith, e))))
    which (suc (suc zero)) e says low = absurd (says.no_words e)
    which (suc (suc (suc zero))) e says low = absurd (not_three says e)
    which (suc (suc (suc (suc zero)))) e says low = inr (inl e)
    which (suc (suc (suc (suc (suc zero))))) e says low = absurd (not_five says e)
    which (suc (suc (suc (suc (suc (suc zero)))))) e says low = inr (inr e)
    which (suc (suc (suc (suc (suc (suc (suc more))))))) e says low = absurd (omega (arith, low))

    pub ran_by : LogSays words (start 0 0) before now status → DrillRan seed count workers written written_now faults faults_now status
    ran_by says = record {
      known = which status refl says says.known;
      done = λ e. wrote_summary (says.done (omega (arith, e)));
      sink_failed = λ e. wrote_front (says.sink_failed e);
      short = λ e. wrote_short (says.short e);
    }

-- memory ran out before the log was begun
pub ended_short : (seed count workers : ℕ) (written written_now : Option (List ℕ)) (faults faults_now status : ℕ) → EndsAs written written_now faults faults_now status memory_line 6
    → DrillRan seed count workers written written_now faults faults_now status
ended_short seed count workers written written_now faults faults_now status (inl e) = record {
  known = inr (inr e.0);
  done = λ z. absurd (omega (arith, e.0, z));
  sink_failed = λ z. absurd (omega (arith, e.0, z));
  short = λ z. record { text = []; may = inl refl; reported = e.1 };
}
ended_short seed count workers written written_now faults faults_now status (inr e) = record {
  known = inr (inl e.0);
  done = λ z. absurd (omega (arith, e.0, z));
  sink_failed = λ z. record { failed = e.1; text = []; may = inl refl; end = memory_line; may_end = inr refl; front = e.2 };
  short = λ z. absurd (omega (arith, e.0, z));
}
