-- Calls answered one by one: one more, a stop, and a run over them.
use Rattle.std.proofs.Common.{◌≡◌, ℕ, ◌+◌, ◌≤◌, Bool, true, false, ◌&&◌, List, [], ◌∷◌, ◌++◌, refl, sym, ◌∙◌, ap, subst, arith, append-nil, append_assoc, string_bytes, Result, Ok, Err, IfOk, IfErr}
use Rattle.call_log.specs.Entry.{Entry}
use Rattle.call_log.specs.Log.{Passed}
use Rattle.log_run.proofs.BatchLaws.{calls_both}
use Rattle.log_run.proofs.BatchLaws as batches
use Rattle.log_run.specs.Batch.{Batch, BatchAnswerView, batch_of, calls_in}
use Rattle.log_run.specs.Speaks.{Speaks}
use Rattle.log_run.specs.declared.stop.AnswerError.{AnswerError}
use Rattle.log_run.specs.declared.stop.AnswerError.TheVariants.{Unread, Memory}
use Rattle.stir_outside.proofs.CountLaws.{at_most_then, both_at_most, none_at, then_rose}
use Rattle.stir_outside.specs.Count.{AtMost}
use Rattle.single_calls.specs.Answer.{AnswerView, all_well, is_well, texts_of, unread_in}
use Rattle.single_calls.specs.Answering.{AreAnswered, StopsBy}
use Rattle.single_calls.specs.Singly.{AnsweredSingly, OneAnswer, SinglyClosed, SinglyStopped, StopsSo, singly_words}

texts_both : (xs ys : List AnswerView) → texts_of (xs ++ ys) ≡ texts_of xs ++ texts_of ys
texts_both [] ys = refl
texts_both (x ∷ xs) ys = ap (λ t. x.text ++ t) (texts_both xs ys) ∙ sym (append_assoc x.text (texts_of xs) (texts_of ys))

each_both : (answered : List Entry → Entry → AnswerView → Type 0) (first xs ys : List Entry) (os ps : List AnswerView) → AreAnswered answered first xs os → AreAnswered answered (first ++ xs) ys ps
    → AreAnswered answered first (xs ++ ys) (os ++ ps)
each_both answered first [] ys [] ps f g = subst (λ l. AreAnswered answered l ys ps) (append-nil first) g
each_both answered first [] ys (o ∷ os) ps f g = absurd f
each_both answered first (x ∷ xs) ys [] ps f g = absurd f
each_both answered first (x ∷ xs) ys (o ∷ os) ps f g =
    (f.0, each_both answered (first ++ x ∷ []) xs ys os ps f.1 (subst (λ l. AreAnswered answered l ys ps) (sym (append_assoc first (x ∷ []) xs)) g))

unread_both : (xs ys : List AnswerView) → unread_in (xs ++ ys) ≡ unread_in xs + unread_in ys
unread_both [] ys = omega arith
unread_both (x ∷ xs) ys = omega (arith, unread_both xs ys)

well_front : (t first second both : Bool) → both ≡ (first && second) → (t && both) ≡ ((t && first) && second)
well_front true first second both e = e
well_front false first second both e = refl

well_both : (xs ys : List AnswerView) → all_well (xs ++ ys) ≡ (all_well xs && all_well ys)
well_both [] ys = refl
well_both (x ∷ xs) ys = well_front (is_well x) (all_well xs) (all_well ys) (all_well (xs ++ ys)) (well_both xs ys)

-- more reads may fail later
later : (answered : List Entry → Entry → AnswerView → Type 0) (a b c : ℕ) (xs : List Batch) → b ≤ c → AnsweredSingly answered a b xs → AnsweredSingly answered a c xs
later answered a b c xs h s = record {
  answers = s.answers;
  each = s.each;
  texts = s.texts;
  well = s.well;
  unread = at_most_then (unread_in s.answers) a b c s.unread h;
  stay = omega (arith, s.stay, h);
}

pub calls_more : (xs : List Batch) (call : Entry) (written : BatchAnswerView) → calls_in (xs ++ batch_of (call ∷ []) written ∷ []) ≡ calls_in xs ++ call ∷ []
calls_more xs call written = calls_both xs (batch_of (call ∷ []) written ∷ [])

one_total : (n : ℕ) → n ≡ n + 0
one_total n = omega arith

pub one_more : (answered answered_one : List Entry → Entry → AnswerView → Type 0) (behind behind_now : List Entry → Type 0) (a b c : ℕ) (xs : List Batch) (call : Entry) (written : BatchAnswerView) → b ≤ c → behind (calls_in xs)
    → ((before : List Entry) (entry : Entry) (answer : AnswerView) → answered_one before entry answer → answered before entry answer) → OneAnswer behind behind_now answered_one b c call written
    → AnsweredSingly answered a b xs → AnsweredSingly answered a c (xs ++ batch_of (call ∷ []) written ∷ [])
one_more answered answered_one behind behind_now a b c xs call written h known still o s = record {
  answers = s.answers ++ o.answer ∷ [];
  each = subst (λ (l : List Entry). AreAnswered answered [] l (s.answers ++ o.answer ∷ [])) (sym (calls_more xs call written))
      (each_both answered [] (calls_in xs) (call ∷ []) s.answers (o.answer ∷ []) s.each (still (calls_in xs) call o.answer (o.may (calls_in xs) known), tt));
  texts = batches.texts_both xs (batch_of (call ∷ []) written ∷ []) ∙ ap (λ t. t ++ (written.text ++ [])) s.texts ∙ ap (λ (w : BatchAnswerView). texts_of s.answers ++ (w.text ++ [])) o.is
      ∙ sym (texts_both s.answers (o.answer ∷ []));
  well = batches.well_both xs (batch_of (call ∷ []) written ∷ []) ∙ ap (λ t. t && (written.well && true)) s.well ∙ ap (λ (w : BatchAnswerView). all_well s.answers && (w.well && true)) o.is
      ∙ sym (well_both s.answers (o.answer ∷ []));
  unread = subst (λ n. AtMost n a c) (sym (unread_both s.answers (o.answer ∷ [])))
      (both_at_most (unread_in s.answers) (unread_in (o.answer ∷ [])) a b c s.unread (subst (λ n. AtMost n b c) (one_total _) o.unread));
  stay = omega (arith, s.stay, h);
}

stops_so : (stops stops_one : List Entry → Entry → List ℕ → List ℕ → Type 0) (behind : List Entry → Type 0) (a b c : ℕ) (before : List Entry) (call : Entry) (stop : AnswerError) → a ≤ b → behind before
    → ((text name : List ℕ) → stops_one before call text name → stops before call text name) → StopsBy behind stops_one call b c stop → StopsSo stops before a c (call ∷ []) stop
stops_so stops stops_one behind a b c before call (Unread text name) h known still s =
    record { call = call; one = refl; may = still (string_bytes text) (string_bytes name) (s.0 before known); rose = then_rose a b c h s.1 }
stops_so stops stops_one behind a b c before call Memory h known still s = tt

pub stopped : (answered : List Entry → Entry → AnswerView → Type 0) (stops stops_one : List Entry → Entry → List ℕ → List ℕ → Type 0) (behind : List Entry → Type 0) (a b c : ℕ) (xs : List Batch) (call : Entry) (stop : AnswerError)
    → b ≤ c → behind (calls_in xs) → ((text name : List ℕ) → stops_one (calls_in xs) call text name → stops (calls_in xs) call text name) → StopsBy behind stops_one call b c stop → AnsweredSingly answered a b xs
    → SinglyStopped answered stops a c xs (call ∷ []) stop
stopped answered stops stops_one behind a b c xs call stop h known still o s =
    record { so = later answered a b c xs h s; stopped = stops_so stops stops_one behind a b c (calls_in xs) call stop s.stay known still o }

-- memory ran out
pub short : (answered : List Entry → Entry → AnswerView → Type 0) (stops : List Entry → Entry → List ℕ → List ℕ → Type 0) (a b c : ℕ) (xs : List Batch) (calls : List Entry) (stop : AnswerError) → b ≤ c → stop ≡ Memory
    → AnsweredSingly answered a b xs → SinglyStopped answered stops a c xs calls stop
short answered stops a b c xs calls stop h memory s = subst (SinglyStopped answered stops a c xs calls) (sym memory) (record { so = later answered a b c xs h s; stopped = tt })

-- ---- a run

-- before the first call
pub none_answered : (answered : List Entry → Entry → AnswerView → Type 0) (a : ℕ) → AnsweredSingly answered a a []
none_answered answered a = record { answers = []; each = tt; texts = refl; well = refl; unread = none_at a a (omega arith); stay = omega arith }

-- what is known of it, in words
pub speaks : (answered : List Entry → Entry → AnswerView → Type 0) (stops : List Entry → Entry → List ℕ → List ℕ → Type 0) (a b : ℕ) (passed : Passed) (Known : List Batch → Type 0)
    → ((batches : List Batch) → Known batches → AnsweredSingly answered a b batches)
    → Speaks (singly_words answered stops a b) passed Known (SinglyStopped answered stops a b) (SinglyClosed answered a b)
speaks answered stops a b passed Known known = record {
  known = λ batches are k. known batches k;
  stopped = λ batches calls stop are h. h.so;
  stops = λ batches calls text name h. h.stopped;
  closed = λ batches text are c. c.so;
  closes = λ batches text c. c.none;
}

-- ---- of what a call gave

pub if_ok : {T E : Type 0} (P Q : T → Type 0) (result : Result T E) → ((x : T) → P x → Q x) → IfOk result P → IfOk result Q
if_ok P Q (Ok x) f p = f x p
if_ok P Q (Err e) f p = tt

pub if_err : {T E : Type 0} (P Q : E → Type 0) (result : Result T E) → ((e : E) → P e → Q e) → IfErr result P → IfErr result Q
if_err P Q (Ok x) f p = tt
if_err P Q (Err e) f p = f e p
