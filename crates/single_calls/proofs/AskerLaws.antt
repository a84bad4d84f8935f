-- What an asker answers, from what was written for the call.
use Rattle.std.proofs.Common.{◌≡◌, ℕ, ◌≤◌, true, List, [], ◌∷◌, ◌++◌, append-nil, append_assoc, Option, Some, None, refl, sym, ◌∙◌, ap, subst}
use Rattle.call_log.specs.Entry.{Entry}
use Rattle.single_calls.specs.Answer.{AnswerView, Well}
use Rattle.single_calls.specs.Answering.{Adds, AnswersBehind, AnswersStop, StopsBy}
use Rattle.log_run.specs.Batch.{Batch, BatchAnswerView, batch_of, calls_in}
use Rattle.log_run.specs.declared.stop.AnswerError.{AnswerError}
use Rattle.cert_store.specs.Rules.{QuestionView}
use Rattle.stir_outside.proofs.CountLaws.{none_at}
use Rattle.stir_outside.specs.Count.{Rose}
use Rattle.stir_outside.specs.Files.{Files}
use Rattle.verify_rules.specs.World.{World}
use Rattle.verify_rules.specs.declared.settings.Settings.{Settings}
use Rattle.verify_service.specs.Judging.{call_in}
use Rattle.single_calls.specs.Asker.{AskedBatches, AskedBy, AskerView, BehindAsked, StopsAsking, asking_world}
use Rattle.single_calls.specs.Asks.{calls_questions}
use Rattle.call_judging.specs.CallQuestions.{call_questions}
use Rattle.single_calls.specs.Reading.{Lines, StopsCallAt, WritesCall}
use Rattle.single_calls.specs.Singly.{OneAnswer, SinglyStopped}
use Rattle.single_calls.specs.Written.{Holds}
use Rattle.single_calls.proofs.SinglyLaws.{calls_more as batches_more, one_more, stopped}

-- ---- the questions of one call more

pub calls_append : (world : World) (settings : Settings) (entries others : List Entry)
    → calls_questions world settings (entries ++ others) ≡ calls_questions world settings entries ++ calls_questions world settings others
calls_append world settings [] others = refl
calls_append world settings (entry ∷ entries) others =
    ap (λ (x : List QuestionView). call_questions world (call_in settings entry) ++ x) (calls_append world settings entries others)
    ∙ sym (append_assoc (call_questions world (call_in settings entry)) (calls_questions world settings entries) (calls_questions world settings others))

pub calls_more : (world : World) (settings : Settings) (entries : List Entry) (entry : Entry)
    → calls_questions world settings (entries ++ entry ∷ []) ≡ calls_questions world settings entries ++ call_questions world (call_in settings entry)
calls_more world settings entries entry =
    calls_append world settings entries (entry ∷ [])
    ∙ ap (λ (x : List QuestionView). calls_questions world settings entries ++ x) (append-nil (call_questions world (call_in settings entry)))

-- ---- an answer

asked_by : (asker : AskerView) (told : Option Files) (entry : Entry) (now : Lines)
    → WritesCall told asker.materials (call_in asker.settings entry) (record { held = asker.written; text = [] }) now
    → AnswersBehind (BehindAsked asker told) (AskedBy asker told) entry (record { text = now.text; finding = Well })
asked_by asker None entry now writes before behind = refl
asked_by asker (Some files) entry now writes before behind =
    record { sign = refl; lines = writes.lines (calls_questions (asking_world asker.materials files) asker.settings before) behind }

adds : (asker now : AskerView) (told : Option Files) (entry : Entry) (text text_now : List ℕ) → now.settings ≡ asker.settings → now.materials ≡ asker.materials
    → WritesCall told asker.materials (call_in asker.settings entry) (record { held = asker.written; text = text }) (record { held = now.written; text = text_now })
    → Adds (BehindAsked asker told) (BehindAsked now told) entry
adds asker now None entry text text_now settings materials writes before behind = tt
adds asker now (Some files) entry text text_now settings materials writes before behind =
    let world = asking_world asker.materials files in
    let held : Holds now.written (calls_questions world asker.settings before ++ call_questions world (call_in asker.settings entry)) =
    writes.holds (calls_questions world asker.settings before) behind in
    let all : Holds now.written (calls_questions world asker.settings (before ++ entry ∷ [])) =
    subst (Holds now.written) (sym (calls_more world asker.settings before entry)) held in
    let one : Holds now.written (calls_questions (asking_world now.materials files) asker.settings (before ++ entry ∷ [])) =
    subst (λ m. Holds now.written (calls_questions (asking_world m files) asker.settings (before ++ entry ∷ []))) (sym materials) all in
    subst (λ (s : Settings). Holds now.written (calls_questions (asking_world now.materials files) s (before ++ entry ∷ []))) (sym settings) one

pub one_asked : (asker now : AskerView) (told : Option Files) (entry : Entry) (text text_now : List ℕ) (written : BatchAnswerView) (faults faults_now : ℕ) → text ≡ [] → faults ≤ faults_now → now.settings ≡ asker.settings
    → now.materials ≡ asker.materials → WritesCall told asker.materials (call_in asker.settings entry) (record { held = asker.written; text = text }) (record { held = now.written; text = text_now })
    → written ≡ record { text = text_now; well = true } → OneAnswer (BehindAsked asker told) (BehindAsked now told) (AskedBy asker told) faults faults_now entry written
one_asked asker now told entry text text_now written faults faults_now none stay settings materials writes is = record {
  answer = record { text = text_now; finding = Well };
  is = is;
  may = asked_by asker told entry (record { held = now.written; text = text_now })
      (subst (λ (t : List ℕ). WritesCall told asker.materials (call_in asker.settings entry) (record { held = asker.written; text = t }) (record { held = now.written; text = text_now })) none writes);
  adds = adds asker now told entry text text_now settings materials writes;
  unread = none_at faults faults_now stay;
}

-- ---- a stop

pub stops_by : (asker : AskerView) (told : Option Files) (entry : Entry) (now : Lines) (name : List ℕ)
    → StopsCallAt told asker.materials (call_in asker.settings entry) (record { held = asker.written; text = [] }) now name
    → AnswersStop (BehindAsked asker told) (StopsAsking asker told) entry now.text name
stops_by asker None entry now name stops before behind = stops
stops_by asker (Some files) entry now name stops before behind = record {
  early = stops.early;
  at = stops.at;
  here = stops.here;
  is = stops.is;
  named = stops.named;
  lines = stops.writes.lines (calls_questions (asking_world asker.materials files) asker.settings before) behind;
}

-- the same of what a call was stopped by, if no line was there before
pub stops_so : (asker : AskerView) (told : Option Files) (entry : Entry) (text : List ℕ) (now : Lines) (name : List ℕ) (faults faults_now : ℕ) → text ≡ []
    → StopsCallAt told asker.materials (call_in asker.settings entry) (record { held = asker.written; text = text }) now name × Rose faults faults_now
    → AnswersStop (BehindAsked asker told) (StopsAsking asker told) entry now.text name × Rose faults faults_now
stops_so asker told entry text now name faults faults_now none (stops, rose) = (
  stops_by asker told entry now name
      (subst (λ (t : List ℕ). StopsCallAt told asker.materials (call_in asker.settings entry) (record { held = asker.written; text = t }) now name) none stops),
  rose,
)

-- ---- of the batches before

-- what may be asked, and what may stop it, don't depend on what was asked
first_asked : (first one : AskerView) (told : Option Files) → one ≡ record first { written = one.written } → (before : List Entry) (entry : Entry) (answer : AnswerView) → AskedBy one told before entry answer
    → AskedBy first told before entry answer
first_asked first one None same before entry answer by = by
first_asked first one (Some files) same before entry answer by = subst (λ (x : AskerView). AskedBy x (Some files) before entry answer) same by

first_stops : (first one : AskerView) (told : Option Files) → one ≡ record first { written = one.written } → (before : List Entry) (entry : Entry) (text name : List ℕ) → StopsAsking one told before entry text name
    → StopsAsking first told before entry text name
first_stops first one None same before entry text name by = subst (λ (x : AskerView). StopsAsking x None before entry text name) same by
first_stops first one (Some files) same before entry text name by = subst (λ (x : AskerView). StopsAsking x (Some files) before entry text name) same by

pub asked_more : (first one now : AskerView) (told : Option Files) (a b c : ℕ) (xs : List Batch) (call : Entry) (written : BatchAnswerView) → b ≤ c → now ≡ record one { written = now.written }
    → OneAnswer (BehindAsked one told) (BehindAsked now told) (AskedBy one told) b c call written → AskedBatches first one told a b xs
    → AskedBatches first now told a c (xs ++ batch_of (call ∷ []) written ∷ [])
asked_more first one now told a b c xs call written h same o s = record {
  so = one_more (AskedBy first told) (AskedBy one told) (BehindAsked one told) (BehindAsked now told) a b c xs call written h s.asked (first_asked first one told s.same) o s.so;
  asked = subst (BehindAsked now told) (sym (batches_more xs call written)) (o.adds (calls_in xs) s.asked);
  same = same ∙ ap (λ (x : AskerView). record x { written = now.written }) s.same;
}

pub asked_stops : (first one : AskerView) (told : Option Files) (a b c : ℕ) (xs : List Batch) (call : Entry) (stop : AnswerError) → b ≤ c → StopsBy (BehindAsked one told) (StopsAsking one told) call b c stop
    → AskedBatches first one told a b xs → SinglyStopped (AskedBy first told) (StopsAsking first told) a c xs (call ∷ []) stop
asked_stops first one told a b c xs call stop h o s =
    stopped (AskedBy first told) (StopsAsking first told) (StopsAsking one told) (BehindAsked one told) a b c xs call stop h s.asked (first_stops first one told s.same (calls_in xs) call) o s.so
