-- A batch that was read, and then answered and written of, or not.
use Rattle.std.proofs.Common.{◌≡◌, ℕ, ◌≤◌, ◌<◌, Bool, true, ◌&&◌, List, [], ◌∷◌, ◌++◌, length, Option, Result, Ok, Err, refl, sym, ◌∙◌, ap, subst, arith, append-nil}
use Rattle.std.specs.Io.KnownBytes.{Appends}
use Rattle.std.specs.declared.alloc.AllocError.{AllocError}
use Rattle.call_log.specs.Entry.{Entry}
use Rattle.call_log.specs.Log.{Passed}
use Rattle.call_log.specs.declared.fault.LogFault.TheVariants.{Source}
use Rattle.log_run.proofs.RunLaws.{source_rose}
use Rattle.log_run.specs.Reading.{ReadBatch, ReadCalls, SourceFailed}
use Rattle.log_run.specs.Streams.{Streams, StreamsStay}
use Rattle.stir_outside.specs.Count.{Rose}
use Rattle.stir_outside.specs.Told.{AppendsFront}
use Rattle.log_run.specs.Batch.{BatchAnswerView, Batch, batch_of}
use Rattle.log_run.specs.Running.{AnsweredBatch, Answers, At, RanBatch}
use Rattle.log_run.specs.declared.ends.RunError.{RunError}
use Rattle.log_run.specs.declared.ends.RunError.TheVariants as error
use Rattle.log_run.specs.declared.ends.Next.{Next}
use Rattle.log_run.specs.declared.ends.Next.TheVariants.{More, Whole, Fault}
use Rattle.log_run.specs.declared.stop.AnswerError.{AnswerError}
use Rattle.log_run.proofs.BatchLaws.{and_true}
use Rattle.log_run.proofs.ReadLaws.{calls_read, few_read, read_nothing}

-- nothing more is known after no batches than of those before
none_more : (Known : List Batch → Type 0) (first : List Batch) → Known first → Known (first ++ [])
none_more Known first known = subst Known (sym (append-nil first)) known

one_good : (good : Bool) (answer : BatchAnswerView) (calls : List Entry) (now : Bool) → now ≡ (good && answer.well) → now ≡ (good && (answer.well && true))
one_good good answer calls now e = e ∙ ap (λ t. good && t) (and_true answer.well)

-- ---- nothing was read

pub unread_stopped : (most : ℕ) (Known : List Batch → Type 0) (Stopped : List Batch → List Entry → AnswerError → Type 0) (first : List Batch) (before now : At) (s t : Streams) → Known first → StreamsStay s t
    → Appends s.written t.written [] → RanBatch most Known Stopped first before now s t (Err error.Memory)
unread_stopped most Known Stopped first before now s t known stay wrote = record {
  batches = [];
  mid = before;
  cut = tt;
  read = read_nothing before.passed before.left;
  good_so = and_true before.good;
  ends = (none_more Known first known, wrote);
  stay = stay;
}

-- fewer than all were read, and none of them is there
pub none_ran : (most : ℕ) (Known : List Batch → Type 0) (Stopped : List Batch → List Entry → AnswerError → Type 0) (first : List Batch) (before now : At) (s t : Streams) (next : Next) (calls : List Entry)
    → Known first → 1 ≤ most → ReadBatch {E = AllocError} most before.passed before.left now.left now.passed calls (Ok next) → calls ≡ [] → now.good ≡ before.good
    → (◌≡◌ {A = Result Next AllocError} (Ok next) (Ok (Fault Source)) → SourceFailed s.read_faults t.read_faults (now.left ≡ now.source)) → StreamsStay s t → Appends s.written t.written [] → RanBatch most Known Stopped first before now s t (Ok next)
none_ran most Known Stopped first before now s t More calls known some r none good rose stay wrote = absurd (omega (arith, r.full, ap length none, some))
none_ran most Known Stopped first before now s t Whole calls known some r none good rose stay wrote = record {
  batches = [];
  mid = record { passed = r.mid; source = now.source; left = r.mid_left; good = before.good };
  cut = tt;
  read = subst (ReadCalls before.passed before.left r.mid_left r.mid) none r.read;
  good_so = and_true before.good;
  ends = (none_more Known first known, r.behind, good, tt, wrote);
  stay = stay;
}
none_ran most Known Stopped first before now s t (Fault fault) calls known some r none good rose stay wrote = record {
  batches = [];
  mid = record { passed = r.mid; source = now.source; left = r.mid_left; good = before.good };
  cut = tt;
  read = subst (ReadCalls before.passed before.left r.mid_left r.mid) none r.read;
  good_so = and_true before.good;
  ends = (none_more Known first known, r.behind, good, source_rose s t (now.left ≡ now.source) fault (λ e. rose (ap (λ x. Ok (Fault x)) e)), wrote);
  stay = stay;
}

-- ---- the calls were answered

one_text : (text : List ℕ) (Wrote : List ℕ → Type 0) → Wrote text → Wrote (text ++ [])
one_text text Wrote w = subst Wrote (sym (append-nil text)) w

one_calls : (before : Passed) (left left_now : Option (List ℕ)) (now : Passed) (calls : List Entry) → ReadCalls before left left_now now calls → ReadCalls before left left_now now (calls ++ [])
one_calls before left left_now now calls r = subst (ReadCalls before left left_now now) (sym (append-nil calls)) r

pub all_ran : (most : ℕ) (Known : List Batch → Type 0) (Stopped : List Batch → List Entry → AnswerError → Type 0) (first : List Batch) (before now : At) (s t : Streams) (next : Next) (calls : List Entry) (answer : BatchAnswerView)
    → ReadBatch {E = AllocError} most before.passed before.left now.left now.passed calls (Ok next) → 0 < length calls → Known (first ++ batch_of calls answer ∷ []) → now.good ≡ (before.good && answer.well)
    → (◌≡◌ {A = Result Next AllocError} (Ok next) (Ok (Fault Source)) → SourceFailed s.read_faults t.read_faults (now.left ≡ now.source)) → StreamsStay s t → Appends s.written t.written answer.text → RanBatch most Known Stopped first before now s t (Ok next)
all_ran most Known Stopped first before now s t More calls answer r some known good rose stay wrote = record {
  batches = batch_of calls answer ∷ [];
  known = known;
  full = (r.full, tt);
  read = one_calls before.passed before.left now.left now.passed calls r.read;
  good_so = one_good before.good answer calls now.good good;
  reported = one_text answer.text (Appends s.written t.written) wrote;
  stay = stay;
}
all_ran most Known Stopped first before now s t Whole calls answer r some known good rose stay wrote = record {
  batches = batch_of calls answer ∷ [];
  mid = record { passed = r.mid; source = now.source; left = r.mid_left; good = now.good };
  cut = (omega (arith, some), omega (arith, r.few));
  read = one_calls before.passed before.left r.mid_left r.mid calls r.read;
  good_so = one_good before.good answer calls now.good good;
  ends = (known, r.behind, refl, tt, one_text answer.text (Appends s.written t.written) wrote);
  stay = stay;
}
all_ran most Known Stopped first before now s t (Fault fault) calls answer r some known good rose stay wrote = record {
  batches = batch_of calls answer ∷ [];
  mid = record { passed = r.mid; source = now.source; left = r.mid_left; good = now.good };
  cut = (omega (arith, some), omega (arith, r.few));
  read = one_calls before.passed before.left r.mid_left r.mid calls r.read;
  good_so = one_good before.good answer calls now.good good;
  ends = (known, r.behind, refl, source_rose s t (now.left ≡ now.source) fault (λ e. rose (ap (λ x. Ok (Fault x)) e)), one_text answer.text (Appends s.written t.written) wrote);
  stay = stay;
}

-- ---- the calls were answered, and their lines not written

pub sink_ran : (most : ℕ) (Known : List Batch → Type 0) (Stopped : List Batch → List Entry → AnswerError → Type 0) (first : List Batch) (before now : At) (s t : Streams) (next : Next) (calls : List Entry) (answer : BatchAnswerView)
    → ReadBatch {E = AllocError} most before.passed before.left now.left now.passed calls (Ok next) → 0 < length calls → Known (first ++ batch_of calls answer ∷ []) → now.good ≡ (before.good && answer.well)
    → StreamsStay s t → Rose s.write_faults t.write_faults → AppendsFront s.written t.written answer.text → RanBatch most Known Stopped first before now s t (Err error.Sink)
sink_ran most Known Stopped first before now s t next calls answer r some known good stay rose wrote =
    let c = calls_read most before.passed now.passed before.left now.left calls next r in
    record {
      batches = batch_of calls answer ∷ [];
      mid = record { passed = c.mid; source = now.source; left = c.mid_left; good = now.good };
      cut = (omega (arith, some), few_read most before.passed now.passed before.left now.left calls next r);
      read = one_calls before.passed before.left c.mid_left c.mid calls c.read;
      good_so = one_good before.good answer calls now.good good;
      ends = (known, rose, one_text answer.text (AppendsFront s.written t.written) wrote);
      stay = stay;
    }

-- ---- the calls weren't answered

pub stop_ran : (most : ℕ) (Known : List Batch → Type 0) (Stopped : List Batch → List Entry → AnswerError → Type 0) (first : List Batch) (before now : At) (s t : Streams) (next : Next) (calls : List Entry) (stop : AnswerError)
    → ReadBatch {E = AllocError} most before.passed before.left now.left now.passed calls (Ok next) → Stopped first calls stop → StreamsStay s t → Appends s.written t.written []
    → RanBatch most Known Stopped first before now s t (Err (error.Stopped stop))
stop_ran most Known Stopped first before now s t next calls stop r stopped stay wrote =
    let c = calls_read most before.passed now.passed before.left now.left calls next r in
    record {
      batches = [];
      mid = before;
      cut = tt;
      read = read_nothing before.passed before.left;
      good_so = and_true before.good;
      ends = (record { calls = calls; next = c; stopped = subst (λ (x : List Batch). Stopped x calls stop) (sym (append-nil first)) stopped }, wrote);
      stay = stay;
    }

-- ---- what came of the calls, from what may come of them

pub answers_ran : (most : ℕ) (Known : List Batch → Type 0) (Stopped : List Batch → List Entry → AnswerError → Type 0) (May : BatchAnswerView → Type 0) (first : List Batch) (before now : At) (s t : Streams) (next : Next) (calls : List Entry)
    → ((answer : BatchAnswerView) → May answer → Known (first ++ batch_of calls answer ∷ [])) → ReadBatch {E = AllocError} most before.passed before.left now.left now.passed calls (Ok next) → 0 < length calls
    → (◌≡◌ {A = Result Next AllocError} (Ok next) (Ok (Fault Source)) → SourceFailed s.read_faults t.read_faults (now.left ≡ now.source)) → StreamsStay s t → Answers May before.good now.good (λ lines. Appends s.written t.written lines)
    → RanBatch most Known Stopped first before now s t (Ok next)
answers_ran most Known Stopped May first before now s t next calls to r some rose stay a =
    all_ran most Known Stopped first before now s t next calls a.answer r some (to a.answer a.may) a.so rose stay a.wrote

-- the calls as they were handed in are those that were read
pub halt_ran : (most : ℕ) (Known : List Batch → Type 0) (Stopped : List Batch → List Entry → AnswerError → Type 0) (May : BatchAnswerView → Type 0) (MayStop : AnswerError → Type 0) (first : List Batch) (before now : At) (s t : Streams) (next : Next)
    (handed calls : List Entry) (stopped : RunError) → handed ≡ calls → ((answer : BatchAnswerView) → May answer → Known (first ++ batch_of handed answer ∷ [])) → ((stop : AnswerError) → MayStop stop → Stopped first handed stop)
    → ReadBatch {E = AllocError} most before.passed before.left now.left now.passed calls (Ok next) → 0 < length calls → StreamsStay s t
    → AnsweredBatch May MayStop before.good now.good s.written t.written s.write_faults t.write_faults (Err stopped) → RanBatch most Known Stopped first before now s t (Err stopped)
halt_ran most Known Stopped May MayStop first before now s t next handed calls error.Sink same to to_stop r some stay a =
    let known = subst (λ (x : List Entry). Known (first ++ batch_of x a.0.answer ∷ [])) same (to a.0.answer a.0.may) in
    sink_ran most Known Stopped first before now s t next calls a.0.answer r some known a.0.so stay a.1 a.0.wrote
halt_ran most Known Stopped May MayStop first before now s t next handed calls error.Memory same to to_stop r some stay a = absurd a
halt_ran most Known Stopped May MayStop first before now s t next handed calls (error.Stopped stop) same to to_stop r some stay a =
    stop_ran most Known Stopped first before now s t next calls stop r (subst (λ (x : List Entry). Stopped first x stop) same (to_stop stop a.0)) stay a.1
