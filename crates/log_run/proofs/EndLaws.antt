-- How a run ends, by each of its statuses.
use Rattle.std.proofs.Common.{◌≡◌, ℕ, ◌≤◌, ◌⊎◌, inl, inr, Bool, true, false, List, [], ◌∷◌, ◌++◌, string_bytes, Option, Some, None, Ok, Err, refl, arith, sym, ◌∙◌, ap, subst, append-nil}
use Rattle.std.specs.Io.KnownBytes.{Appends, IsAtEnd, prepend_known}
use Rattle.std.proofs.KnownBytes.{Appends-trans}
use Rattle.call_log.specs.Entry.{Entry}
use Rattle.call_log.specs.Reads.{LogState, left_to}
use Rattle.call_log.specs.Supply.{unless_ended}
use Rattle.call_log.specs.declared.fault.LogFault.{LogFault}
use Rattle.call_log.specs.declared.fault.LogFault.TheVariants.{Grammar, Backward, Many, Source, Memory as WantOfMemory}
use Rattle.log_run.specs.Batch.{Batch, texts_in}
use Rattle.log_run.specs.Ending.{CloseRan, EndedSo, EndsAt, EndsBehind, EndsHalted, EndsRefused, EndsStopped, FailsIn, LogRan, MayBeShort, MayEnd, MayStand, failed_line, refused_line, report_status, unread_line}
use Rattle.log_run.specs.Reading.{FaultyAt, ReadBehind, SourceFailed}
use Rattle.log_run.specs.Running.{At, RunEnd, RunsOut, StopsNext}
use Rattle.log_run.specs.Streams.{BehindBy, SourceRose, Streams}
use Rattle.log_run.specs.declared.ends.RunError.{RunError}
use Rattle.log_run.specs.declared.ends.RunError.TheVariants as error
use Rattle.log_run.specs.declared.stop.AnswerError.{AnswerError}
use Rattle.log_run.specs.declared.stop.AnswerError.TheVariants.{Unread, Memory}
use Rattle.log_run.proofs.ReadLaws.{at_backward, at_grammar, at_many, read_nothing}
use Rattle.log_run.proofs.RunLaws.{front_behind}
use Rattle.stir_outside.proofs.CountLaws.{then_rose}
use Rattle.stir_outside.specs.Count.{Rose}
use Rattle.stir_outside.specs.Ending.{EndsAs, memory_line}
use Rattle.stir_outside.specs.Told.{AppendsFront}

-- of a run whose batches were written, and what came then
module _ (Known : Type 0) (Stopped : List Entry → AnswerError → Type 0) (Closed : List ℕ → Type 0) (mid : At) (Drained : Type 0) (left_now : Option (List ℕ)) (lines : List ℕ) (s t u : Streams) (status : ℕ)
    (stay : s.write_faults ≤ t.write_faults) (wrote : Appends s.written t.written lines) where
  abbrev Goal : Type 0
  Goal = EndedSo Known Stopped Closed mid Drained left_now lines s u status

  abbrev May : List ℕ → Type 0
  May line = MayEnd mid Drained left_now s u line

  -- a line that may come there wasn't written whole
  front : (line : List ℕ) → MayStand Known Stopped Closed May mid line → status ≡ 4 → Rose t.write_faults u.write_faults → AppendsFront t.written u.written line → Goal
  front line may said rose written = inr (inr (inr (inr (inr (record {
    line = line;
    may = may;
    rose = then_rose s.write_faults t.write_faults u.write_faults stay rose;
    front = front_behind s.written t.written u.written lines line wrote written;
    said = said;
  })))))

  short : (text : List ℕ) → MayBeShort Known Stopped Closed mid text → status ≡ 6 → Appends s.written u.written (lines ++ (text ++ memory_line)) → Goal
  short text may said written = inr (inr (inr (inr (inl (record { text = text; may = may; reported = written; said = said })))))

  -- memory ran out, which a line says
  memory : MayStand Known Stopped Closed May mid memory_line → MayBeShort Known Stopped Closed mid [] → EndsAs t.written u.written t.write_faults u.write_faults status memory_line 6 → Goal
  memory may be (inl e) = short [] be e.0 (Appends-trans s.written t.written u.written lines memory_line wrote e.1)
  memory may be (inr e) = front memory_line may e.0 e.1 e.2

  -- the run was stopped at calls
  stopped_by : (stop : AnswerError) → StopsNext Stopped mid stop → EndsStopped t.written u.written t.write_faults u.write_faults status stop → Goal
  stopped_by (Unread text name) may (inl (inl e)) = inr (inr (inr (inl (record {
    text = text;
    name = name;
    stops = may;
    reported = Appends-trans s.written t.written u.written lines (string_bytes text ++ unread_line (string_bytes name)) wrote e.1;
    said = e.0;
  }))))
  stopped_by (Unread text name) may (inl (inr e)) =
      front (string_bytes text ++ unread_line (string_bytes name)) (inr (inl (record { stop = Unread text name; stops = may; says = inl refl }))) e.0 e.1 e.2
  stopped_by (Unread text name) may (inr e) = memory (inr (inl (record { stop = Unread text name; stops = may; says = inr refl }))) (inr (inl ((Unread text name, may), refl))) e
  stopped_by Memory may e = memory (inr (inl (record { stop = Memory; stops = may; says = refl }))) (inr (inl ((Memory, may), refl))) e

  -- ---- the report was closed by a text

  -- the line after the text, whole or not
  line_by : (text line : List ℕ) (said : ℕ) (between : Option (List ℕ)) (writes : ℕ) → Closed text → May line → Appends t.written between text → t.write_faults ≤ writes
      → EndsAs between u.written writes u.write_faults status line said → (status ≡ said → Appends s.written u.written (lines ++ (text ++ line)) → Goal) → Goal
  line_by text line said between writes closed may closing stays (inl e) whole =
      whole e.0 (Appends-trans s.written t.written u.written lines (text ++ line) wrote (Appends-trans t.written between u.written text line closing e.1))
  line_by text line said between writes closed may closing stays (inr e) whole =
      front (text ++ line) (inr (inr (record { text = text; end = line; closed = closed; may_end = may; says = refl }))) e.0 (then_rose t.write_faults writes u.write_faults stays e.1)
      (front_behind t.written between u.written text line closing e.2)

  memory_by : (text : List ℕ) (between : Option (List ℕ)) (writes : ℕ) → Closed text → Appends t.written between text → t.write_faults ≤ writes → EndsAs between u.written writes u.write_faults status memory_line 6 → Goal
  memory_by text between writes closed closing stays e =
      line_by text memory_line 6 between writes closed (inr (inl refl)) closing stays e (λ said reported. short text (inr (inr closed)) said reported)

  refused_by : (text : List ℕ) (place : ℕ) (between : Option (List ℕ)) (writes : ℕ) → Closed text → FaultyAt mid.passed mid.left place → Appends t.written between text → t.write_faults ≤ writes
      → EndsRefused between u.written writes u.write_faults status place → Goal
  refused_by text place between writes closed faulty closing stays (inl e) =
      line_by text (refused_line place) 5 between writes closed (inr (inr (inr (place, refl, faulty)))) closing stays e
      (λ said reported. inr (inl (record { text = text; closed = closed; place = place; faulty = faulty; reported = reported; said = said })))
  refused_by text place between writes closed faulty closing stays (inr e) = memory_by text between writes closed closing stays e

  -- the end after the text
  behind_by : (text : List ℕ) (between : Option (List ℕ)) (writes : ℕ) (good : Bool) (fault : Option LogFault) → Closed text → good ≡ mid.good → BehindBy {X = RunError} mid.passed mid.left left_now (Ok fault)
      → SourceRose s u Drained fault → Appends t.written between text → t.write_faults ≤ writes → EndsAt between u.written writes u.write_faults status good fault → Goal
  behind_by text between writes good None closed same behind rose closing stays e = inl (record {
    text = text;
    closed = closed;
    behind = behind;
    stay = let same_writes = e.same_writes in omega (arith, stay, stays, same_writes);
    reported = Appends-trans s.written t.written u.written lines text wrote (subst (λ (x : Option (List ℕ)). Appends t.written x text) (sym e.same_written) closing);
    said = e.answered ∙ ap report_status same;
  })
  behind_by text between writes good (Some (Grammar place)) closed same behind rose closing stays e =
      refused_by text place between writes closed (at_grammar mid.passed mid.left left_now place behind.hands_out) closing stays e
  behind_by text between writes good (Some (Backward place)) closed same behind rose closing stays e =
      refused_by text place between writes closed (at_backward mid.passed mid.left left_now place behind.hands_out) closing stays e
  behind_by text between writes good (Some (Many place)) closed same behind rose closing stays e =
      refused_by text place between writes closed (at_many mid.passed mid.left left_now place behind.hands_out) closing stays e
  behind_by text between writes good (Some Source) closed same behind rose closing stays e =
      line_by text failed_line 3 between writes closed (inr (inr (inl (refl, behind, rose)))) closing stays e
      (λ said reported. inr (inr (inl (record { text = text; closed = closed; behind = behind; failed = rose; reported = reported; said = said }))))
  behind_by text between writes good (Some WantOfMemory) closed same behind rose closing stays e = memory_by text between writes closed closing stays e

  closed_by : (text : List ℕ) (good : Bool) (fault : Option LogFault) → Closed text → good ≡ mid.good → BehindBy {X = RunError} mid.passed mid.left left_now (Ok fault) → SourceRose s u Drained fault
      → EndsBehind t.written u.written t.write_faults u.write_faults status text good fault ⊎ FailsIn t.written u.written t.write_faults u.write_faults status text → Goal
  closed_by text good fault closed same behind rose (inl e) = behind_by text e.between e.writes_between good fault closed same behind rose e.wrote e.stay e.ends
  closed_by text good fault closed same behind rose (inr e) =
      front text (inr (inr (record { text = text; end = []; closed = closed; may_end = inl refl; says = sym (append-nil text) }))) e.answered e.rose e.front

-- the source failed still, if no more was read of it
pub rose_still : (s t u : Streams) (Drained : Type 0) (fault : Option LogFault) → u.read_faults ≡ t.read_faults → SourceRose s t Drained fault → SourceRose s u Drained fault
rose_still s t u Drained None same r = tt
rose_still s t u Drained (Some (Grammar place)) same r = tt
rose_still s t u Drained (Some (Backward place)) same r = tt
rose_still s t u Drained (Some (Many place)) same r = tt
rose_still s t u Drained (Some Source) same r = subst (λ (x : ℕ). SourceFailed s.read_faults x Drained) (sym same) r
rose_still s t u Drained (Some WantOfMemory) same r = tt

-- the text was written whole, and then the end came
pub whole_text : (Short : Type 0) (Closed : List ℕ → Type 0) (written between now : Option (List ℕ)) (writes writes_between writes_now status : ℕ) (good : Bool) (fault : Option LogFault) (text sent : List ℕ) → sent ≡ text
    → Closed text → Appends written between sent → writes ≤ writes_between → EndsAt between now writes_between writes_now status good fault → CloseRan Short Closed written now writes writes_now status good fault
whole_text Short Closed written between now writes writes_between writes_now status good fault text sent same closed wrote stay ends = inr (record {
  text = text;
  closed = closed;
  wrote = inl (record { between = between; writes_between = writes_between; wrote = subst (λ (x : List ℕ). Appends written between x) same wrote; stay = stay; ends = ends });
})

-- ---- the whole

-- a run whose batches were read, and which ended in one of these ways
ran_so : (most : ℕ) (Answered Known : List Batch → Type 0) (Halted Stopped : List Batch → List Entry → AnswerError → Type 0) (Closed : List Batch → List ℕ → Type 0) (a b : At) (s t u : Streams) (ended : RunEnd) (status : ℕ)
    → u.read_faults ≡ t.read_faults → (r : RunsOut most Answered Halted a b s t ended)
    → EndedSo (Known r.batches) (Stopped r.batches) (Closed r.batches) r.mid (b.left ≡ b.source) b.left (texts_in r.batches) s u status
    → LogRan most Known Stopped Closed a (b.left ≡ b.source) b.left s u status
ran_so most Answered Known Halted Stopped Closed a b s t u ended status reads r so = record {
  batches = r.batches;
  mid = r.mid;
  cut = r.cut;
  read = r.read;
  good_so = r.good_so;
  stay = let low = r.stay.read_faults in omega (arith, reads, low);
  so = so;
}

-- the log ended, and the report was closed, or memory ran out for that
pub log_closed : (most : ℕ) (Answered Known : List Batch → Type 0) (Halted Stopped : List Batch → List Entry → AnswerError → Type 0) (Closed : List Batch → List ℕ → Type 0) (Short : Type 0) (Closes : List ℕ → Type 0) (a b : At) (s t u : Streams)
    (good : Bool) (fault : Option LogFault) (status : ℕ) → ((batches : List Batch) (text : List ℕ) → Answered batches → Closes text → Closed batches text)
    → ((batches : List Batch) → Answered batches → Short → Stopped batches [] Memory) → good ≡ b.good → u.read_faults ≡ t.read_faults → RunsOut most Answered Halted a b s t (Ok fault)
    → CloseRan Short Closes t.written u.written t.write_faults u.write_faults status good fault → LogRan most Known Stopped Closed a (b.left ≡ b.source) b.left s u status
log_closed most Answered Known Halted Stopped Closed Short Closes a b s t u good fault status to_closed to_short same reads r close =
    ran_so most Answered Known Halted Stopped Closed a b s t u (Ok fault) status reads r (by_close close) where
      by_close : CloseRan Short Closes t.written u.written t.write_faults u.write_faults status good fault → EndedSo (Known r.batches) (Stopped r.batches) (Closed r.batches) r.mid (b.left ≡ b.source) b.left (texts_in r.batches) s u status
      by_close (inl wanting) =
          let stops : StopsNext (Stopped r.batches) r.mid Memory = record { calls = []; next = record { mid = r.mid.passed; mid_left = r.mid.left; read = read_nothing r.mid.passed r.mid.left }; stopped = to_short r.batches r.ends.0 wanting.0 } in
          memory (Known r.batches) (Stopped r.batches) (Closed r.batches) r.mid (b.left ≡ b.source) b.left (texts_in r.batches) s t u status r.stay.write_faults r.ends.4
          (inr (inl (record { stop = Memory; stops = stops; says = refl }))) (inr (inl ((Memory, stops), refl))) wanting.1
      by_close (inr closed) =
          closed_by (Known r.batches) (Stopped r.batches) (Closed r.batches) r.mid (b.left ≡ b.source) b.left (texts_in r.batches) s t u status r.stay.write_faults r.ends.4 closed.text good fault
          (to_closed r.batches closed.text r.ends.0 closed.closed) (same ∙ r.ends.2) r.ends.1 (rose_still s t u (b.left ≡ b.source) fault reads r.ends.3) closed.wrote

-- it was stopped before the log ended
pub log_halted : (most : ℕ) (Known : List Batch → Type 0) (Stopped : List Batch → List Entry → AnswerError → Type 0) (Closed : List Batch → List ℕ → Type 0) (a b : At) (s t u : Streams) (stopped : RunError) (status : ℕ)
    → u.read_faults ≡ t.read_faults → RunsOut most Known Stopped a b s t (Err stopped) → EndsHalted t.written u.written t.write_faults u.write_faults status stopped → LogRan most Known Stopped Closed a (b.left ≡ b.source) b.left s u status
log_halted most Known Stopped Closed a b s t u error.Sink status reads r e = ran_so most Known Known Stopped Stopped Closed a b s t u (Err error.Sink) status reads r (inr (inr (inr (inr (inr (record {
  line = [];
  may = inl (r.ends.0, inl refl);
  rose = subst (Rose s.write_faults) (sym e.same_writes) r.ends.1;
  front = subst (AppendsFront s.written u.written) (sym (append-nil (texts_in r.batches))) (subst (λ (x : Option (List ℕ)). AppendsFront s.written x (texts_in r.batches)) (sym e.same_written) r.ends.2);
  said = e.answered;
}))))))
log_halted most Known Stopped Closed a b s t u error.Memory status reads r e =
    ran_so most Known Known Stopped Stopped Closed a b s t u (Err error.Memory) status reads r
    (memory (Known r.batches) (Stopped r.batches) (Closed r.batches) r.mid (b.left ≡ b.source) b.left (texts_in r.batches) s t u status r.stay.write_faults r.ends.1 (inl (r.ends.0, inr refl)) (inl (r.ends.0, refl)) e)
log_halted most Known Stopped Closed a b s t u (error.Stopped stop) status reads r e =
    ran_so most Known Known Stopped Stopped Closed a b s t u (Err (error.Stopped stop)) status reads r
    (stopped_by (Known r.batches) (Stopped r.batches) (Closed r.batches) r.mid (b.left ≡ b.source) b.left (texts_in r.batches) s t u status r.stay.write_faults r.ends.1 stop r.ends.0 e)

-- ---- what the source has left, if the log ended or the source failed, is all that is left to the reader

-- at the end of the log nothing is left to the reader, and so nothing of the source
abbrev pub IsAllAtEnd : Option (List ℕ) → Option (List ℕ) → Type 0
IsAllAtEnd left source = IsAtEnd left → left ≡ source

none_first : (xs ys : List ℕ) → xs ++ ys ≡ [] → xs ≡ []
none_first [] ys e = refl
none_first (x ∷ xs) ys e = absurd (cc)

all_by : (ahead : List ℕ) (ended : Bool) (left : Option (List ℕ)) → (ended ≡ true → IsAtEnd left) → IsAllAtEnd (prepend_known ahead (unless_ended ended left)) left
all_by ahead true None ends end = refl
all_by ahead false None ends end = refl
all_by ahead true (Some rest) ends end = ap (λ x. Some (x ++ [])) (none_first ahead [] end) ∙ ap Some (sym (ends refl))
all_by ahead false (Some rest) ends end = ap (λ x. Some (x ++ rest)) (none_first ahead rest end)

pub all_at_end : (reader : LogState) (left : Option (List ℕ)) → (reader.ended ≡ true → IsAtEnd left) → IsAllAtEnd (left_to reader left) left
all_at_end reader left ends = all_by reader.ahead reader.ended left ends

end_used : (mid : At) (left source : Option (List ℕ)) (s t : Streams) (line : List ℕ) → MayEnd mid (left ≡ source) left s t line → MayEnd mid (left ≡ source) source s t line
end_used mid left source s t line (inl e) = inl e
end_used mid left source s t line (inr (inl e)) = inr (inl e)
end_used mid left source s t line (inr (inr (inl e))) = inr (inr (inl (e.0, subst (λ x. ReadBehind mid.passed mid.left x (Err Source)) e.2.drained e.1, e.2)))
end_used mid left source s t line (inr (inr (inr e))) = inr (inr (inr e))

may_used : (Known : Type 0) (Stopped : List Entry → AnswerError → Type 0) (Closed : List ℕ → Type 0) (mid : At) (left source : Option (List ℕ)) (s t : Streams) (line : List ℕ)
    → MayStand Known Stopped Closed (MayEnd mid (left ≡ source) left s t) mid line → MayStand Known Stopped Closed (MayEnd mid (left ≡ source) source s t) mid line
may_used Known Stopped Closed mid left source s t line (inl k) = inl k
may_used Known Stopped Closed mid left source s t line (inr (inl n)) = inr (inl n)
may_used Known Stopped Closed mid left source s t line (inr (inr c)) =
    inr (inr (record { text = c.text; end = c.end; closed = c.closed; may_end = end_used mid left source s t c.end c.may_end; says = c.says }))

so_used : (Known : Type 0) (Stopped : List Entry → AnswerError → Type 0) (Closed : List ℕ → Type 0) (mid : At) (left source : Option (List ℕ)) (lines : List ℕ) (s t : Streams) (status : ℕ)
    → IsAllAtEnd left source → EndedSo Known Stopped Closed mid (left ≡ source) left lines s t status → EndedSo Known Stopped Closed mid (left ≡ source) source lines s t status
so_used Known Stopped Closed mid left source lines s t status all (inl e) = inl (record {
  text = e.text;
  closed = e.closed;
  behind = subst (λ x. ReadBehind mid.passed mid.left x (Ok None)) (all e.behind.reads.ended) e.behind;
  stay = e.stay;
  reported = e.reported;
  said = e.said;
})
so_used Known Stopped Closed mid left source lines s t status all (inr (inl e)) = inr (inl e)
so_used Known Stopped Closed mid left source lines s t status all (inr (inr (inl e))) = inr (inr (inl (record {
  text = e.text;
  closed = e.closed;
  behind = subst (λ x. ReadBehind mid.passed mid.left x (Err Source)) e.failed.drained e.behind;
  failed = e.failed;
  reported = e.reported;
  said = e.said;
})))
so_used Known Stopped Closed mid left source lines s t status all (inr (inr (inr (inl e)))) = inr (inr (inr (inl e)))
so_used Known Stopped Closed mid left source lines s t status all (inr (inr (inr (inr (inl e))))) = inr (inr (inr (inr (inl e))))
so_used Known Stopped Closed mid left source lines s t status all (inr (inr (inr (inr (inr e))))) = inr (inr (inr (inr (inr (record {
  line = e.line;
  may = may_used Known Stopped Closed mid left source s t e.line e.may;
  rose = e.rose;
  front = e.front;
  said = e.said;
})))))

pub log_used : (most : ℕ) (Known : List Batch → Type 0) (Stopped : List Batch → List Entry → AnswerError → Type 0) (Closed : List Batch → List ℕ → Type 0) (a : At) (left source : Option (List ℕ)) (s t : Streams) (status : ℕ)
    → IsAllAtEnd left source → LogRan most Known Stopped Closed a (left ≡ source) left s t status → LogRan most Known Stopped Closed a (left ≡ source) source s t status
log_used most Known Stopped Closed a left source s t status all r = record {
  batches = r.batches;
  mid = r.mid;
  cut = r.cut;
  read = r.read;
  good_so = r.good_so;
  stay = r.stay;
  so = so_used (Known r.batches) (Stopped r.batches) (Closed r.batches) r.mid left source (texts_in r.batches) s t status all r.so;
}
