-- The promises of a run in the words of its command, from how it ended.
use Rattle.std.proofs.Common.{false, ◌≡◌, ◌≢◌, ℕ, ◌≤◌, ◌⊎◌, inl, inr, Bool, true, false, ◌&&◌, List, [], ◌++◌, Option, Some, None, IfSome, Ok, Err, string_bytes, refl, sym, ◌∙◌, ap, subst, arith}
use Rattle.std.specs.declared.alloc.Global.{Global}
use Rattle.std.specs.declared.string.String.{String}
use Rattle.std.proofs.KnownBytes.{Consumes-trans, prepend_known-nil}
use Rattle.call_log.proofs.HeaderLaws.{headed_some}
use Rattle.call_log.specs.Entry.{Entry}
use Rattle.call_log.specs.HandsOut.{HandsOutOf, OneLog}
use Rattle.call_log.specs.Log.{AreCalls, LogText, NoEntry, Passed, after_all, entry_texts, start}
use Rattle.call_log.specs.Reads.{LogState, left_to}
use Rattle.call_log.specs.declared.fault.LogFault.TheVariants.{Source}
use Rattle.log_run.specs.Batch.{Batch, IsCut, all_well, calls_in, texts_in}
use Rattle.log_run.specs.Ending.{EndedFailed, EndedFaulty, EndedFront, EndedShort, EndedSo, EndedStopped, EndedWhole, IsStopLine, LogRan, MayBeShort, MayEnd, MayStand, report_status, unread_line}
use Rattle.log_run.specs.Reading.{FaultyAt, IsFaulty, ReadBehind, ReadCalls}
use Rattle.log_run.specs.Running.{At, StopsNext, at}
use Rattle.log_run.specs.Speaks.{AreBatches, Speaks}
use Rattle.log_run.specs.Streams.{Streams}
use Rattle.log_run.specs.Words.{AnswersFaulty, AnswersWhole, DoneReport, FailedReport, FirstBatches, FrontReport, LogSays, MayComeAfter, MayEndWith, NeverStops, PartLog, PartReport, RunState, ShortReport, StoppedReport, StopsWith, TakenLog, Words, run_state}
use Rattle.log_run.specs.declared.stop.AnswerError.{AnswerError}
use Rattle.log_run.specs.declared.stop.AnswerError.TheVariants.{Unread, Memory}
use Rattle.log_run.proofs.ReadLaws.{read_both}
use Rattle.stir_outside.proofs.CountLaws.{not_rose}
use Rattle.stir_outside.specs.Count.{Rose}

-- ---- the log of all bytes that were left

joined : (first passed : Passed) (bytes rest behind : List ℕ) (calls : List Entry) → bytes ≡ entry_texts calls ++ rest → AreCalls first calls → passed ≡ after_all first calls → LogText passed rest [] behind → LogText first bytes calls behind
joined first passed bytes rest behind calls text follow moves l = record {
  text = text ∙ ap (λ t. entry_texts calls ++ t) l.text;
  follow = follow;
  longest = subst (λ p. NoEntry p behind) moves l.longest;
}

whole_log : (first passed : Passed) (bytes : List ℕ) (left now : Option (List ℕ)) (calls : List Entry) → ReadCalls first (Some bytes) left passed calls → HandsOutOf passed left now (Ok None) → LogText first bytes calls []
whole_log first passed bytes None now calls r h = absurd r.consumed
whole_log first passed bytes (Some rest) now calls r h = joined first passed bytes rest [] calls r.consumed r.follow r.moves h

part_log : (first passed : Passed) (bytes : List ℕ) (left : Option (List ℕ)) (calls : List Entry) (place : ℕ) → ReadCalls first (Some bytes) left passed calls → FaultyAt passed left place → PartLog first bytes calls place
part_log first passed bytes None calls place r f = absurd r.consumed
part_log first passed bytes (Some rest) calls place r f = record {
  rest = rest;
  log = joined first passed bytes rest rest calls r.consumed r.follow r.moves f.0;
  fault = subst (λ p. IsFaulty p place rest) r.moves f.1;
}

faulty_some : (passed : Passed) (place : ℕ) (rest : List ℕ) → IsFaulty passed place rest → rest ≢ []
faulty_some passed place rest (inl g) = g.some
faulty_some passed place rest (inr (inl b)) = λ e. headed_some b.backward.moment b.backward.said b.backward.behind (sym b.backward.text ∙ e)
faulty_some passed place rest (inr (inr m)) = m.some

low_status : (good : Bool) → report_status good ≤ 1
low_status true = omega arith
low_status false = omega arith

-- ---- of batches that were read, and what came then

module _ (words : Words) (Known : List Batch → Type 0) (Stopped : List Batch → List Entry → AnswerError → Type 0) (Closed : List Batch → List ℕ → Type 0) (passed : Passed) (left left_now : Option (List ℕ)) (Drained : Type 0)
    (s t : Streams) (status : ℕ) (speaks : Speaks words passed Known Stopped Closed) (batches : List Batch) (mid : At) (cut : IsCut words.most batches) (read : ReadCalls passed left mid.left mid.passed (calls_in batches))
    (good_so : mid.good ≡ (true && all_well batches)) (stay : s.read_faults ≤ t.read_faults) where
  abbrev before : RunState
  before = run_state left s

  abbrev now : RunState
  now = run_state left_now t

  are : AreBatches words.most passed batches
  are = record { cut = cut; follow = read.follow }

  first_by : words.Known batches → FirstBatches words passed left batches
  first_by known = record { cut = cut; first = record { mid = mid.passed; mid_left = mid.left; read = read }; known = known }

  -- the bytes as a log of the calls

  whole_of : (bytes : List ℕ) → left ≡ Some bytes → ReadBehind mid.passed mid.left left_now (Ok None) → LogText passed bytes (calls_in batches) []
  whole_of bytes is behind = whole_log passed mid.passed bytes mid.left left_now (calls_in batches) (subst (λ l. ReadCalls passed l mid.left mid.passed (calls_in batches)) is read) behind.hands_out

  part_of : (bytes : List ℕ) (place : ℕ) → left ≡ Some bytes → FaultyAt mid.passed mid.left place → PartLog passed bytes (calls_in batches) place
  part_of bytes place is faulty = part_log passed mid.passed bytes mid.left (calls_in batches) place (subst (λ l. ReadCalls passed l mid.left mid.passed (calls_in batches)) is read) faulty

  part_if : (place : ℕ) (told : Option (List ℕ)) → left ≡ told → FaultyAt mid.passed mid.left place → IfSome told (λ bytes. PartLog passed bytes (calls_in batches) place)
  part_if place None is faulty = tt
  part_if place (Some bytes) is faulty = part_of bytes place is faulty

  taken_of : ReadBehind mid.passed mid.left left_now (Err Source) → Rose s.read_faults t.read_faults → TakenLog passed before now (calls_in batches)
  taken_of behind rose = record {
    failed = rose;
    taken = entry_texts (calls_in batches) ++ behind.reads.taken;
    consumed = Consumes-trans left mid.left left_now (entry_texts (calls_in batches)) behind.reads.taken read.consumed behind.reads.consumed;
    rest = behind.reads.taken;
    log = record { text = refl; follow = read.follow; longest = subst (λ p. NoEntry p behind.reads.taken) read.moves behind.reads.known };
  }

  stops_of : (text name : String Global) → StopsNext (Stopped batches) mid (Unread text name) → StopsWith words passed left batches (string_bytes text ++ unread_line (string_bytes name))
  stops_of text name n = record {
    calls = n.calls;
    text = string_bytes text;
    name = string_bytes name;
    next = record {
      mid = n.next.mid;
      mid_left = n.next.mid_left;
      read = read_both passed mid.passed n.next.mid left mid.left n.next.mid_left (calls_in batches) n.calls read n.next.read;
    };
    stops = speaks.stops batches n.calls text name n.stopped;
    says = refl;
  }

  -- ---- the reports

  said_so : status ≡ report_status mid.good → status ≡ report_status (all_well batches)
  said_so said = said ∙ ap report_status good_so

  whole_if : (told : Option (List ℕ)) → left ≡ told → ReadBehind mid.passed mid.left left_now (Ok None) → IfSome told (λ bytes. LogText passed bytes (calls_in batches) [])
  whole_if None is behind = tt
  whole_if (Some bytes) is behind = whole_of bytes is behind

  done_of : EndedWhole (Closed batches) mid left_now (texts_in batches) s t status → DoneReport words passed before now status
  done_of e = record {
    batches = batches;
    answered = first_by (speaks.closed batches e.text are e.closed);
    log = whole_if left refl e.behind;
    stay = e.stay;
    text = e.text;
    closes = speaks.closes batches e.text e.closed;
    reported = e.reported;
    said = said_so e.said;
  }

  refused_of : EndedFaulty (Closed batches) mid (texts_in batches) s t status → PartReport words passed before now
  refused_of e = record {
    batches = batches;
    answered = first_by (speaks.closed batches e.text are e.closed);
    place = e.place;
    part = part_if e.place left refl e.faulty;
    text = e.text;
    closes = speaks.closes batches e.text e.closed;
    reported = e.reported;
  }

  failed_of : EndedFailed (Closed batches) mid Drained left_now (texts_in batches) s t status → FailedReport words passed before now
  failed_of e = record {
    batches = batches;
    answered = first_by (speaks.closed batches e.text are e.closed);
    taken = taken_of e.behind e.failed.rose;
    text = e.text;
    closes = speaks.closes batches e.text e.closed;
    reported = e.reported;
  }

  stopped_of : EndedStopped (Stopped batches) mid (texts_in batches) s t status → StoppedReport words passed before now
  stopped_of e = record {
    batches = batches;
    answered = first_by (speaks.stopped batches e.stops.calls (Unread e.text e.name) are e.stops.stopped);
    line = string_bytes e.text ++ unread_line (string_bytes e.name);
    stopped = stops_of e.text e.name e.stops;
    reported = e.reported;
  }

  -- memory ran out

  short_known : (text : List ℕ) → MayBeShort (Known batches) (Stopped batches) (Closed batches) mid text → words.Known batches
  short_known text (inl k) = speaks.known batches are k.0
  short_known text (inr (inl n)) = speaks.stopped batches n.0.1.calls n.0.0 are n.0.1.stopped
  short_known text (inr (inr closed)) = speaks.closed batches text are closed

  short_closes : (text : List ℕ) → MayBeShort (Known batches) (Stopped batches) (Closed batches) mid text → (text ≡ []) ⊎ words.Closes batches text
  short_closes text (inl k) = inl k.1
  short_closes text (inr (inl n)) = inl n.1
  short_closes text (inr (inr closed)) = inr (speaks.closes batches text closed)

  short_of : EndedShort (MayBeShort (Known batches) (Stopped batches) (Closed batches) mid) (texts_in batches) s t status → ShortReport words passed before now
  short_of e = record { batches = batches; answered = first_by (short_known e.text e.may); text = e.text; may_close = short_closes e.text e.may; reported = e.reported }

  -- the sink failed

  abbrev May : List ℕ → Type 0
  May line = MayEnd mid Drained left_now s t line

  end_of : (line : List ℕ) → May line → MayEndWith passed before now (calls_in batches) line
  end_of line (inl none) = inl none
  end_of line (inr (inl memory)) = inr (inl memory)
  end_of line (inr (inr (inl failed))) = inr (inr (inl (failed.0, taken_of failed.1 failed.2.rose)))
  end_of line (inr (inr (inr faulty))) = inr (inr (inr (faulty.0, faulty.1, part_if faulty.0 left refl faulty.2)))

  stop_line : (line : List ℕ) (stop : AnswerError) → StopsNext (Stopped batches) mid stop → IsStopLine stop line → MayComeAfter words passed before now batches line
  stop_line line (Unread text name) n (inl is) = inr (inr (inl (subst (StopsWith words passed left batches) (sym is) (stops_of text name n))))
  stop_line line (Unread text name) n (inr memory) = inr (inl memory)
  stop_line line Memory n memory = inr (inl memory)

  front_known : (line : List ℕ) → MayStand (Known batches) (Stopped batches) (Closed batches) May mid line → words.Known batches
  front_known line (inl k) = speaks.known batches are k.0
  front_known line (inr (inl n)) = speaks.stopped batches n.stops.calls n.stop are n.stops.stopped
  front_known line (inr (inr c)) = speaks.closed batches c.text are c.closed

  front_line : (line : List ℕ) → MayStand (Known batches) (Stopped batches) (Closed batches) May mid line → MayComeAfter words passed before now batches line
  front_line line (inl (known, inl none)) = inl none
  front_line line (inl (known, inr memory)) = inr (inl memory)
  front_line line (inr (inl n)) = stop_line line n.stop n.stops n.says
  front_line line (inr (inr c)) = inr (inr (inr (record { text = c.text; closes = speaks.closes batches c.text c.closed; end = c.end; may_end = end_of c.end c.may_end; says = c.says })))

  front_of : EndedFront (MayStand (Known batches) (Stopped batches) (Closed batches) May mid) (texts_in batches) s t status → FrontReport words passed before now
  front_of e = record { failed = e.rose; batches = batches; answered = first_by (front_known e.line e.may); line = e.line; may_come = front_line e.line e.may; front = e.front }

  -- ---- which status comes

  not_faulty : OneLog → (bytes : List ℕ) (calls : List Entry) (place : ℕ) → left ≡ Some bytes → LogText passed bytes calls [] → FaultyAt mid.passed mid.left place → ⊥
  not_faulty law bytes calls place is whole faulty =
      let p = part_of bytes place is faulty in
      faulty_some (after_all passed (calls_in batches)) place p.rest p.fault (law passed bytes (calls_in batches) calls p.rest [] p.log whole).1

  not_whole : OneLog → (bytes rest : List ℕ) (calls : List Entry) → left ≡ Some bytes → LogText passed bytes calls rest → rest ≢ [] → ReadBehind mid.passed mid.left left_now (Ok None) → ⊥
  not_whole law bytes rest calls is part some behind = some (law passed bytes calls (calls_in batches) rest [] part (whole_of bytes is behind)).1

  -- ---- by how it ended

  abbrev Ended : Type 0
  Ended = EndedSo (Known batches) (Stopped batches) (Closed batches) mid Drained left_now (texts_in batches) s t status

  -- a run that didn't end with a whole report, by its status
  says_else : (n : ℕ) → status ≡ n → 3 ≤ n → n ≤ 6 → (n ≡ 3 → FailedReport words passed before now ⊎ StoppedReport words passed before now) → (n ≡ 4 → FrontReport words passed before now)
      → (n ≡ 5 → PartReport words passed before now) → (n ≡ 6 → ShortReport words passed before now) → AnswersWhole words passed before now status → AnswersFaulty words passed before now status
      → LogSays words passed before now status
  says_else n said least most fails fronts refuses shorts whole faulty = record {
    known = omega (arith, said, most);
    no_words = λ two. omega (arith, said, least, two);
    stay = stay;
    done = λ low. absurd (omega (arith, said, least, low));
    ended = λ low. absurd (omega (arith, said, least, low));
    fails = λ three. fails (sym said ∙ three);
    sink_failed = λ four. fronts (sym said ∙ four);
    refuses = λ five. refuses (sym said ∙ five);
    short = λ six. shorts (sym said ∙ six);
    answers_whole = whole;
    answers_faulty = faulty;
  }

  says_by : OneLog → Ended → LogSays words passed before now status
  says_by law (inl e) = record {
    known = omega (arith, e.said, low_status mid.good);
    no_words = λ two. omega (arith, e.said, low_status mid.good, two);
    stay = stay;
    done = λ low. done_of e;
    ended = λ low. e.behind.reads.ended;
    fails = λ three. absurd (omega (arith, e.said, low_status mid.good, three));
    sink_failed = λ four. absurd (omega (arith, e.said, low_status mid.good, four));
    refuses = λ five. absurd (omega (arith, e.said, low_status mid.good, five));
    short = λ six. absurd (omega (arith, e.said, low_status mid.good, six));
    answers_whole = λ bytes calls is whole reads writes never. inl (omega (arith, e.said, low_status mid.good));
    answers_faulty = λ bytes rest calls is part some reads writes never. absurd (not_whole law bytes rest calls is part some e.behind);
  }
  says_by law (inr (inl e)) =
      says_else 5 e.said (omega arith) (omega arith) (λ is. absurd (omega (arith, is))) (λ is. absurd (omega (arith, is))) (λ five. refused_of e) (λ is. absurd (omega (arith, is)))
      (λ bytes calls is whole reads writes never. absurd (not_faulty law bytes calls e.place is whole e.faulty)) (λ bytes rest calls is part some reads writes never. inl e.said)
  says_by law (inr (inr (inl e))) =
      says_else 3 e.said (omega arith) (omega arith) (λ three. inl (failed_of e)) (λ is. absurd (omega (arith, is))) (λ is. absurd (omega (arith, is))) (λ is. absurd (omega (arith, is)))
      (λ bytes calls is whole reads writes never. absurd (not_rose s.read_faults t.read_faults reads e.failed.rose))
      (λ bytes rest calls is part some reads writes never. absurd (not_rose s.read_faults t.read_faults reads e.failed.rose))
  says_by law (inr (inr (inr (inl e)))) =
      let stops : NeverStops words → ⊥ = λ never. never batches e.stops.calls (string_bytes e.text) (string_bytes e.name) (speaks.stops batches e.stops.calls e.text e.name e.stops.stopped) in
      says_else 3 e.said (omega arith) (omega arith) (λ three. inr (stopped_of e)) (λ is. absurd (omega (arith, is))) (λ is. absurd (omega (arith, is))) (λ is. absurd (omega (arith, is)))
      (λ bytes calls is whole reads writes never. absurd (stops never)) (λ bytes rest calls is part some reads writes never. absurd (stops never))
  says_by law (inr (inr (inr (inr (inl e))))) =
      says_else 6 e.said (omega arith) (omega arith) (λ is. absurd (omega (arith, is))) (λ is. absurd (omega (arith, is))) (λ is. absurd (omega (arith, is))) (λ six. short_of e)
      (λ bytes calls is whole reads writes never. inr e.said) (λ bytes rest calls is part some reads writes never. inr e.said)
  says_by law (inr (inr (inr (inr (inr e))))) =
      says_else 4 e.said (omega arith) (omega arith) (λ is. absurd (omega (arith, is))) (λ four. front_of e) (λ is. absurd (omega (arith, is))) (λ is. absurd (omega (arith, is)))
      (λ bytes calls is whole reads writes never. absurd (not_rose s.write_faults t.write_faults writes e.rose))
      (λ bytes rest calls is part some reads writes never. absurd (not_rose s.write_faults t.write_faults writes e.rose))

-- ---- the whole

pub log_says : OneLog → (words : Words) (Known : List Batch → Type 0) (Stopped : List Batch → List Entry → AnswerError → Type 0) (Closed : List Batch → List ℕ → Type 0) (passed : Passed) (source : Option (List ℕ)) (Drained : Type 0) (left left_now : Option (List ℕ)) (s t : Streams)
    (status : ℕ) → Speaks words passed Known Stopped Closed → LogRan words.most Known Stopped Closed (at passed source left true) Drained left_now s t status → LogSays words passed (run_state left s) (run_state left_now t) status
log_says law words Known Stopped Closed passed source Drained left left_now s t status speaks r =
    says_by words Known Stopped Closed passed left left_now Drained s t status speaks r.batches r.mid r.cut r.read r.good_so r.stay law r.so

-- from a reader at the beginning of a log that goes on from this number and this moment
begun_at : (number moment : ℕ) (left : Option (List ℕ)) (reader : LogState) → reader ≡ record { passed = start number moment; ahead = []; ended = false; fault = None }
    → at reader.passed left (left_to reader left) true ≡ at (start number moment) left left true
begun_at number moment left reader new = λ i. at (ap (λ (x : LogState). x.passed) new i) left ((ap (λ (x : LogState). left_to x left) new ∙ prepend_known-nil left) i) true

pub begun_says : OneLog → (number moment : ℕ) (words : Words) (Known : List Batch → Type 0) (Stopped : List Batch → List Entry → AnswerError → Type 0) (Closed : List Batch → List ℕ → Type 0)
    (reader : LogState) (Drained : Type 0) (left left_now : Option (List ℕ)) (s t : Streams) (status : ℕ) → reader ≡ record { passed = start number moment; ahead = []; ended = false; fault = None }
    → Speaks words (start number moment) Known Stopped Closed → LogRan words.most Known Stopped Closed (at reader.passed left (left_to reader left) true) Drained left_now s t status
    → LogSays words (start number moment) (run_state left s) (run_state left_now t) status
begun_says law number moment words Known Stopped Closed reader Drained left left_now s t status new speaks r =
    log_says law words Known Stopped Closed (start number moment) left Drained left left_now s t status speaks
    (subst (λ (x : At). LogRan words.most Known Stopped Closed x Drained left_now s t status) (begun_at number moment left reader new) r)

-- from one at the beginning of a log
pub first_says : OneLog → (words : Words) (Known : List Batch → Type 0) (Stopped : List Batch → List Entry → AnswerError → Type 0) (Closed : List Batch → List ℕ → Type 0) (reader : LogState) (Drained : Type 0) (left left_now : Option (List ℕ)) (s t : Streams)
    (status : ℕ) → reader ≡ record { passed = start 0 0; ahead = []; ended = false; fault = None } → Speaks words (start 0 0) Known Stopped Closed
    → LogRan words.most Known Stopped Closed (at reader.passed left (left_to reader left) true) Drained left_now s t status → LogSays words (start 0 0) (run_state left s) (run_state left_now t) status
first_says law = begun_says law 0 0
