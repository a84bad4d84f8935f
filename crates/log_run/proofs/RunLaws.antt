-- Pieces of a run after one another. What is known of the batches of the second piece is known of them after those of the first.
use Rattle.std.proofs.Common.{◌≡◌, ℕ, ◌≤◌, List, [], ◌++◌, Option, Some, None, Ok, Err, refl, sym, ◌∙◌, ap, subst, arith, append_assoc}
use Rattle.std.specs.Io.KnownBytes.{Appends}
use Rattle.std.proofs.KnownBytes.{Appends-nil, Appends-trans}
use Rattle.call_log.specs.Entry.{Entry}
use Rattle.call_log.specs.declared.fault.LogFault.{LogFault}
use Rattle.call_log.specs.declared.fault.LogFault.TheVariants.{Grammar, Backward, Many, Source, Memory}
use Rattle.log_run.specs.Batch.{Batch, calls_in, texts_in}
use Rattle.log_run.specs.Reading.{ReadCalls, SourceFailed}
use Rattle.log_run.specs.Running.{At, EndedBy, RunEnd, RunsOn, RunsOut}
use Rattle.log_run.specs.Streams.{SourceRose, Streams, StreamsStay}
use Rattle.log_run.specs.declared.ends.RunError.TheVariants as error
use Rattle.log_run.specs.declared.stop.AnswerError.{AnswerError}
use Rattle.log_run.proofs.BatchLaws.{and_true, calls_both, full_both, full_cut, good_both, texts_both}
use Rattle.log_run.proofs.ReadLaws.{read_both, read_nothing}
use Rattle.stir_outside.specs.Told.{AppendsFront}

-- ---- streams

pub front_behind : (a b c : Option (List ℕ)) (text more : List ℕ) → Appends a b text → AppendsFront b c more → AppendsFront a c (text ++ more)
front_behind a b c text more p f = record {
  front = text ++ f.front;
  rest = f.rest;
  split = ap (λ t. text ++ t) f.split ∙ sym (append_assoc text f.front f.rest);
  appended = Appends-trans a b c text f.front p f.appended;
}

-- the source failed only if its count rose
pub source_rose : (s t : Streams) (Drained : Type 0) (fault : LogFault) → (fault ≡ Source → SourceFailed s.read_faults t.read_faults Drained) → SourceRose s t Drained (Some fault)
source_rose s t Drained (Grammar place) r = tt
source_rose s t Drained (Backward place) r = tt
source_rose s t Drained (Many place) r = tt
source_rose s t Drained Source r = r refl
source_rose s t Drained Memory r = tt

pub source_behind : (a b c : Streams) (Drained : Type 0) (fault : Option LogFault) → StreamsStay a b → SourceRose b c Drained fault → SourceRose a c Drained fault
source_behind a b c Drained None s r = tt
source_behind a b c Drained (Some (Grammar place)) s r = tt
source_behind a b c Drained (Some (Backward place)) s r = tt
source_behind a b c Drained (Some (Many place)) s r = tt
source_behind a b c Drained (Some Source) s r = record { rose = λ e. omega (arith, s.read_faults, r.rose e); drained = r.drained }
source_behind a b c Drained (Some Memory) s r = tt

pub stay_both : (a b c : Streams) → StreamsStay a b → StreamsStay b c → StreamsStay a c
stay_both a b c s t = record { read_faults = omega (arith, s.read_faults, t.read_faults); write_faults = omega (arith, s.write_faults, t.write_faults) }

-- ---- pieces of a run

pub on_none : (most : ℕ) (Known : List Batch → Type 0) (here : At) (outside : Streams) → Known [] → RunsOn most Known here here outside outside
on_none most Known here outside known = record {
  batches = [];
  known = known;
  full = tt;
  read = read_nothing here.passed here.left;
  good_so = and_true here.good;
  reported = Appends-nil outside.written;
  stay = record { read_faults = omega arith; write_faults = omega arith };
}

read_on : (a b c : At) (xs ys : List Batch) → ReadCalls a.passed a.left b.left b.passed (calls_in xs) → ReadCalls b.passed b.left c.left c.passed (calls_in ys) → ReadCalls a.passed a.left c.left c.passed (calls_in (xs ++ ys))
read_on a b c xs ys f g =
    subst (ReadCalls a.passed a.left c.left c.passed) (sym (calls_both xs ys)) (read_both a.passed b.passed c.passed a.left b.left c.left (calls_in xs) (calls_in ys) f g)

pub on_both : (most : ℕ) (Known Next : List Batch → Type 0) (a b c : At) (s t u : Streams) (f : RunsOn most Known a b s t) → RunsOn most (λ more. Next (f.batches ++ more)) b c t u → RunsOn most Next a c s u
on_both most Known Next a b c s t u f g = record {
  batches = f.batches ++ g.batches;
  known = g.known;
  full = full_both most f.batches g.batches f.full g.full;
  read = read_on a b c f.batches g.batches f.read g.read;
  good_so = good_both a.good b.good c.good f.batches g.batches f.good_so g.good_so;
  reported = subst (Appends s.written u.written) (sym (texts_both f.batches g.batches)) (Appends-trans s.written t.written u.written (texts_in f.batches) (texts_in g.batches) f.reported g.reported);
  stay = stay_both s t u f.stay g.stay;
}

ended_behind : (Known : Type 0) (Stopped : List Entry → AnswerError → Type 0) (mid now : At) (xs ys : List Batch) (s t u : Streams) (ended : RunEnd) → StreamsStay s t → Appends s.written t.written (texts_in xs)
    → EndedBy Known Stopped mid now (texts_in ys) t u ended → EndedBy Known Stopped mid now (texts_in (xs ++ ys)) s u ended
ended_behind Known Stopped mid now xs ys s t u (Ok fault) stay wrote e = (
  e.0,
  e.1,
  e.2,
  source_behind s t u (now.left ≡ now.source) fault stay e.3,
  subst (Appends s.written u.written) (sym (texts_both xs ys)) (Appends-trans s.written t.written u.written (texts_in xs) (texts_in ys) wrote e.4),
)
ended_behind Known Stopped mid now xs ys s t u (Err error.Sink) stay wrote e = (
  e.0,
  (λ h. omega (arith, stay.write_faults, e.1 h)),
  subst (λ x. AppendsFront s.written u.written x) (sym (texts_both xs ys)) (front_behind s.written t.written u.written (texts_in xs) (texts_in ys) wrote e.2),
)
ended_behind Known Stopped mid now xs ys s t u (Err error.Memory) stay wrote e =
    (e.0, subst (Appends s.written u.written) (sym (texts_both xs ys)) (Appends-trans s.written t.written u.written (texts_in xs) (texts_in ys) wrote e.1))
ended_behind Known Stopped mid now xs ys s t u (Err (error.Stopped stop)) stay wrote e =
    (e.0, subst (Appends s.written u.written) (sym (texts_both xs ys)) (Appends-trans s.written t.written u.written (texts_in xs) (texts_in ys) wrote e.1))

pub out_behind : (most : ℕ) (Known Next : List Batch → Type 0) (Stopped : List Batch → List Entry → AnswerError → Type 0) (a b c : At) (s t u : Streams) (ended : RunEnd) → 1 ≤ most → (f : RunsOn most Known a b s t)
    → RunsOut most (λ more. Next (f.batches ++ more)) (λ more. Stopped (f.batches ++ more)) b c t u ended → RunsOut most Next Stopped a c s u ended
out_behind most Known Next Stopped a b c s t u ended some f g = record {
  batches = f.batches ++ g.batches;
  mid = g.mid;
  cut = full_cut most f.batches g.batches some f.full g.cut;
  read = read_on a b g.mid f.batches g.batches f.read g.read;
  good_so = good_both a.good b.good g.mid.good f.batches g.batches f.good_so g.good_so;
  ends = ended_behind (Next (f.batches ++ g.batches)) (Stopped (f.batches ++ g.batches)) g.mid c f.batches g.batches s t u ended f.stay f.reported g.ends;
  stay = stay_both s t u f.stay g.stay;
}
