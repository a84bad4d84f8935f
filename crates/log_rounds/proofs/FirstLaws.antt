-- How often a run over rounds read files, whatever ended it.
use Rattle.std.proofs.Common.{◌≡◌, ℕ, true, false, List, [], ◌++◌, Option, None, inl, inr, refl, sym, ◌∙◌, ap, subst, arith}
use Rattle.std.proofs.KnownBytes.{prepend_known-nil}
use Rattle.call_log.specs.Entry.{Entry}
use Rattle.call_log.specs.Log.{start}
use Rattle.call_log.specs.Reads.{LogState, left_to}
use Rattle.cert_store.specs.Files.{Files as ChainFiles}
use Rattle.log_rounds.proofs.FewLaws.{few_begun, few_named}
use Rattle.log_rounds.proofs.WordsLaws.{same_calls}
use Rattle.log_rounds.specs.Batches.{JudgedFrom, RoundsBehind, RoundsClosed, RoundsStopped}
use Rattle.log_rounds.specs.Handed.{HandsBehind, StateClosed}
use Rattle.log_rounds.specs.Reads.{ReadsFirst, ReadsNamed}
use Rattle.log_rounds.specs.Rounds.{calls_in as calls_of}
use Rattle.log_rounds.specs.Verifier.{basis_of, config_of, state_of}
use Rattle.log_rounds.specs.declared.verifier.LogVerifier.{LogVerifier}
use Rattle.log_run.proofs.ReadLaws.{read_both}
use Rattle.log_run.specs.Batch.{Batch, calls_in}
use Rattle.log_run.specs.Ending.{EndedSo, LogRan, MayBeShort, MayStand}
use Rattle.log_run.specs.Reading.{CallsRead, ReadCalls}
use Rattle.log_run.specs.Running.{At, StopsNext, at}
use Rattle.log_run.specs.Streams.{Streams}
use Rattle.log_run.specs.declared.stop.AnswerError.{AnswerError}
use Rattle.stir_outside.specs.Files.{Counts, Files}
use Rattle.verify_rules.specs.declared.settings.Settings.{Settings}
use Rattle.verify_service.specs.Reads.{ReadsFew}

-- ---- what holds of the calls that were answered, and of those with what was begun, holds of calls with which the log begins

record Begins (P : List Entry → Type 0) (before : At) : Type 0 where
  pub calls : List Entry
  pub first : CallsRead before.passed before.left calls
  pub holds : P calls

module _ (P : List Entry → Type 0) (before mid : At) (Known : Type 0) (Stopped : List Entry → AnswerError → Type 0) (Closed : List ℕ → Type 0) (calls : List Entry)
    (read : ReadCalls before.passed before.left mid.left mid.passed calls) (known : Known → P calls) (stopped : (more : List Entry) (stop : AnswerError) → Stopped more stop → P (calls ++ more))
    (closed : (text : List ℕ) → Closed text → P calls) where
  alone : P calls → Begins P before
  alone holds = record { calls = calls; first = record { mid = mid.passed; mid_left = mid.left; read = read }; holds = holds }

  begun : (stop : AnswerError) → StopsNext Stopped mid stop → Begins P before
  begun stop n = record {
    calls = calls ++ n.calls;
    first = record {
      mid = n.next.mid;
      mid_left = n.next.mid_left;
      read = read_both before.passed mid.passed n.next.mid before.left mid.left n.next.mid_left calls n.calls read n.next.read;
    };
    holds = stopped n.calls stop n.stopped;
  }

  short : (text : List ℕ) → MayBeShort Known Stopped Closed mid text → Begins P before
  short text (inl k) = alone (known k.0)
  short text (inr (inl n)) = begun n.0.0 n.0.1
  short text (inr (inr c)) = alone (closed text c)

  front : (May : List ℕ → Type 0) (line : List ℕ) → MayStand Known Stopped Closed May mid line → Begins P before
  front May line (inl k) = alone (known k.0)
  front May line (inr (inl n)) = begun n.stop n.stops
  front May line (inr (inr c)) = alone (closed c.text c.closed)

  begins : (Drained : Type 0) (left_now : Option (List ℕ)) (lines : List ℕ) (s t : Streams) (status : ℕ) → EndedSo Known Stopped Closed mid Drained left_now lines s t status → Begins P before
  begins Drained left_now lines s t status (inl e) = alone (closed e.text e.closed)
  begins Drained left_now lines s t status (inr (inl e)) = alone (closed e.text e.closed)
  begins Drained left_now lines s t status (inr (inr (inl e))) = alone (closed e.text e.closed)
  begins Drained left_now lines s t status (inr (inr (inr (inl e)))) = begun _ e.stops
  begins Drained left_now lines s t status (inr (inr (inr (inr (inl e))))) = short e.text e.may
  begins Drained left_now lines s t status (inr (inr (inr (inr (inr e))))) = front _ e.line e.may

-- from a reader at the beginning of a log that goes on from this number and this moment
begun_at : (number moment : ℕ) (left : Option (List ℕ)) (reader : LogState) → reader ≡ record { passed = start number moment; ahead = []; ended = false; fault = None }
    → at reader.passed left (left_to reader left) true ≡ at (start number moment) left left true
begun_at number moment left reader new = λ i. at (ap (λ (x : LogState). x.passed) new i) left ((ap (λ (x : LogState). left_to x left) new ∙ prepend_known-nil left) i) true

ran_first : (P : List Entry → Type 0) (most : ℕ) (Known : List Batch → Type 0) (Stopped : List Batch → List Entry → AnswerError → Type 0) (Closed : List Batch → List ℕ → Type 0) (before : At) (Drained : Type 0)
    (left_now : Option (List ℕ)) (s t : Streams) (status : ℕ) → ((batches : List Batch) → Known batches → P (calls_in batches))
    → ((batches : List Batch) (more : List Entry) (stop : AnswerError) → Stopped batches more stop → P (calls_in batches ++ more)) → ((batches : List Batch) (text : List ℕ) → Closed batches text → P (calls_in batches))
    → LogRan most Known Stopped Closed before Drained left_now s t status → Begins P before
ran_first P most Known Stopped Closed before Drained left_now s t status known stopped closed r =
    begins P before r.mid (Known r.batches) (Stopped r.batches) (Closed r.batches) (calls_in r.batches) r.read (known r.batches) (stopped r.batches) (closed r.batches) Drained left_now _ s t status r.so

-- ---- the rounds of a verifier that held no chain at first

few_judged : (verifier now : LogVerifier) (told : Option Files) (a b : Counts) (batches : List Batch) → (state_of verifier a).held ≡ [] → JudgedFrom verifier now a b told batches
    → ReadsNamed verifier.service.settings verifier.service.chains (calls_in batches) a.reads b.reads
few_judged verifier now told a b batches none j =
    subst (λ calls. ReadsNamed verifier.service.settings verifier.service.chains calls a.reads b.reads) (sym (same_calls batches j.rounds j.are))
    (few_named (config_of (basis_of verifier)) verifier.service.chains (state_of verifier a) (state_of now b) (calls_of j.rounds) none (j.few_reads (record { same = refl; below_last = omega arith })))

few_stopped : (verifier : LogVerifier) (told : Option Files) (a b : Counts) (batches : List Batch) (more : List Entry) (stop : AnswerError) → (state_of verifier a).held ≡ [] → RoundsStopped verifier a b told batches more stop
    → ReadsNamed verifier.service.settings verifier.service.chains (calls_in batches ++ more) a.reads b.reads
few_stopped verifier told a b batches more stop none h =
    few_begun verifier.service.settings verifier.service.chains verifier.service.held.entries h.mid.service.held.entries (calls_in batches) more a.reads h.counted.reads b.reads none
    (subst (λ calls. ReadsFew verifier.service.settings verifier.service.chains calls (state_of verifier a).held (state_of h.mid h.counted).held a.reads h.counted.reads) (sym (same_calls batches h.so.rounds h.so.are))
    (h.so.few_reads (record { same = refl; below_last = omega arith }))) h.reads

reads_of : (settings : Settings) (chains : ChainFiles) (before : At) (reads now : ℕ) → Begins (λ calls. ReadsNamed settings chains calls reads now) before → ReadsFirst settings chains before.passed before.left reads now
reads_of settings chains before reads now b = record { calls = b.calls; first = b.first; few = b.holds }

pub reads_first : (verifier now : LogVerifier) (told : Option Files) (a b : Counts) (reader : LogState) (Drained : Type 0) (left left_now : Option (List ℕ)) (s t : Streams) (status : ℕ) → (state_of verifier a).held ≡ []
    → reader ≡ record { passed = start 0 0; ahead = []; ended = false; fault = None }
    → LogRan 256 (λ batches. RoundsBehind verifier now a b told batches) (λ batches calls stop. RoundsStopped verifier a b told batches calls stop) (λ batches text. RoundsClosed verifier now a b told batches text)
    (at reader.passed left (left_to reader left) true) Drained left_now s t status
    → ReadsFirst verifier.service.settings verifier.service.chains (start 0 0) left a.reads b.reads
reads_first verifier now told a b reader Drained left left_now s t status none new r =
    reads_of verifier.service.settings verifier.service.chains (at (start 0 0) left left true) a.reads b.reads
    (subst (λ (x : At). Begins (λ calls. ReadsNamed verifier.service.settings verifier.service.chains calls a.reads b.reads) x) (begun_at 0 0 left reader new)
    (ran_first (λ calls. ReadsNamed verifier.service.settings verifier.service.chains calls a.reads b.reads) 256 (λ batches. RoundsBehind verifier now a b told batches)
    (λ batches calls stop. RoundsStopped verifier a b told batches calls stop) (λ batches text. RoundsClosed verifier now a b told batches text) (at reader.passed left (left_to reader left) true) Drained left_now s t status
    (λ batches k. few_judged verifier now told a b batches none k.so) (λ batches more stop h. few_stopped verifier told a b batches more stop none h) (λ batches text c. few_judged verifier now told a b batches none c.so) r))

pub reads_on : (verifier now : LogVerifier) (told : Option Files) (number moment : ℕ) (a b : Counts) (reader : LogState) (Drained : Type 0) (left left_now : Option (List ℕ)) (s t : Streams) (status : ℕ)
    → (state_of verifier a).held ≡ [] → reader ≡ record { passed = start number moment; ahead = []; ended = false; fault = None }
    → LogRan 256 (λ batches. HandsBehind verifier now a b told batches) (λ batches calls stop. RoundsStopped verifier a b told batches calls stop) (λ batches text. StateClosed verifier now a b told batches text)
    (at reader.passed left (left_to reader left) true) Drained left_now s t status
    → ReadsFirst verifier.service.settings verifier.service.chains (start number moment) left a.reads b.reads
reads_on verifier now told number moment a b reader Drained left left_now s t status none new r =
    reads_of verifier.service.settings verifier.service.chains (at (start number moment) left left true) a.reads b.reads
    (subst (λ (x : At). Begins (λ calls. ReadsNamed verifier.service.settings verifier.service.chains calls a.reads b.reads) x) (begun_at number moment left reader new)
    (ran_first (λ calls. ReadsNamed verifier.service.settings verifier.service.chains calls a.reads b.reads) 256 (λ batches. HandsBehind verifier now a b told batches)
    (λ batches calls stop. RoundsStopped verifier a b told batches calls stop) (λ batches text. StateClosed verifier now a b told batches text) (at reader.passed left (left_to reader left) true) Drained left_now s t status
    (λ batches k. few_judged verifier now told a b batches none k.behind.so) (λ batches more stop h. few_stopped verifier told a b batches more stop none h)
    (λ batches text c. few_judged verifier c.mid told a b batches none c.behind.behind.so) r))
