-- A run over the batches of a log, up to its end or to what stopped it.
use Rattle.std.specs.Prelude.{◌≡◌, ℕ, Bool, ◌&&◌, List, [], ◌++◌, Option, Some, None, Result, Ok, Err}
use Rattle.std.specs.Io.KnownBytes.{Appends}
use Rattle.call_log.specs.Entry.{Entry}
use Rattle.call_log.specs.Log.{Passed}
use Rattle.call_log.specs.Reads.{LogState, left_to}
use Rattle.call_log.specs.declared.fault.LogFault.{LogFault}
use Rattle.log_run.specs.Batch.{AllFull, Batch, BatchAnswerView, IsCut, all_well, calls_in, texts_in}
use Rattle.log_run.specs.Reading.{CallsRead, ReadCalls}
use Rattle.log_run.specs.Streams.{BehindBy, SourceRose, Streams, StreamsStay}
use Rattle.log_run.specs.declared.ends.Next.{Next}
use Rattle.log_run.specs.declared.ends.Next.TheVariants.{More, Whole, Fault}
use Rattle.log_run.specs.declared.ends.RunError.{RunError}
use Rattle.log_run.specs.declared.ends.RunError.TheVariants as error
use Rattle.log_run.specs.declared.stop.AnswerError.{AnswerError}
use Rattle.stir_outside.specs.Count.{Rose}
use Rattle.stir_outside.specs.Told.{AppendsFront}
use Rattle.stir_outside.specs.declared.source.Source.{Ghosts as SourceOf}

-- how far a run has come: how far the log was read, what the source has left, what is left to the reader, and whether
-- all is well so far
pub record At : Type 0 where
  pub passed : Passed
  pub source : Option (List ℕ)
  pub left : Option (List ℕ)
  pub good : Bool

abbrev pub at : Passed → Option (List ℕ) → Option (List ℕ) → Bool → At
at passed source left good = record { passed = passed; source = source; left = left; good = good }

-- of a reader and its source
abbrev pub at_of : {I : Type 0} → SourceOf I → Bool → LogState → I → At
at_of bytes good reader input = at reader.passed (bytes.left input) (left_to reader (bytes.left input)) good

-- full batches were read and answered, and their lines written
pub record RunsOn (most : ℕ) (Known : List Batch → Type 0) (before now : At)
    (outside outside_now : Streams) : Type 0 where
  pub batches : List Batch
  pub known : Known batches
  pub full : AllFull most batches
  pub read : ReadCalls before.passed before.left now.left now.passed (calls_in batches)
  pub good_so : now.good ≡ (before.good && all_well batches)
  pub reported : Appends outside.written outside_now.written (texts_in batches)
  pub stay : StreamsStay outside outside_now

-- what ended the run: the end of the log or a fault of it, or what stopped it before
abbrev pub RunEnd : Type 0
RunEnd = Result (Option LogFault) RunError

-- it stopped at calls that come next
pub record StopsNext (Stopped : List Entry → AnswerError → Type 0) (mid : At) (stop : AnswerError) : Type 0 where
  pub calls : List Entry
  pub next : CallsRead mid.passed mid.left calls
  pub stopped : Stopped calls stop

-- why it ended after these batches, and what was written of them
abbrev pub EndedBy : (Known : Type 0) → (List Entry → AnswerError → Type 0) → At → At → List ℕ → Streams
    → Streams → RunEnd → Type 0
EndedBy Known Stopped mid now text outside outside_now (Ok fault) =
    Known × BehindBy {X = RunError} mid.passed mid.left now.left (Ok fault) × (now.good ≡ mid.good)
    × SourceRose outside outside_now (now.left ≡ now.source) fault × Appends outside.written outside_now.written text
EndedBy Known Stopped mid now text outside outside_now (Err error.Sink) =
    Known × Rose outside.write_faults outside_now.write_faults × AppendsFront outside.written outside_now.written text
EndedBy Known Stopped mid now text outside outside_now (Err error.Memory) =
    Known × Appends outside.written outside_now.written text
EndedBy Known Stopped mid now text outside outside_now (Err (error.Stopped stop)) =
    StopsNext Stopped mid stop × Appends outside.written outside_now.written text

-- batches were answered up to the last one or to what stopped the run
pub record RunsOut (most : ℕ) (Known : List Batch → Type 0) (Stopped : List Batch → List Entry → AnswerError → Type 0)
    (before now : At) (outside outside_now : Streams) (ended : RunEnd) : Type 0 where
  pub batches : List Batch
  pub mid : At
  pub cut : IsCut most batches
  pub read : ReadCalls before.passed before.left mid.left mid.passed (calls_in batches)
  pub good_so : mid.good ≡ (before.good && all_well batches)
  pub ends : EndedBy (Known batches) (Stopped batches) mid now (texts_in batches) outside outside_now ended
  pub stay : StreamsStay outside outside_now

-- one batch, from any batches on that may have been answered before
abbrev pub RanBatch : ℕ → (List Batch → Type 0) → (List Batch → List Entry → AnswerError → Type 0) → List Batch → At
    → At → Streams → Streams → Result Next RunError → Type 0
RanBatch most Known Stopped first before now outside outside_now (Ok More) =
    RunsOn most (λ more. Known (first ++ more)) before now outside outside_now
RanBatch most Known Stopped first before now outside outside_now (Ok Whole) = RunsOut most
    (λ more. Known (first ++ more)) (λ more. Stopped (first ++ more)) before now outside outside_now (Ok None)
RanBatch most Known Stopped first before now outside outside_now (Ok (Fault fault)) = RunsOut most
    (λ more. Known (first ++ more)) (λ more. Stopped (first ++ more)) before now outside outside_now (Ok (Some fault))
RanBatch most Known Stopped first before now outside outside_now (Err stopped) = RunsOut most
    (λ more. Known (first ++ more)) (λ more. Stopped (first ++ more)) before now outside outside_now (Err stopped)

-- ---- one batch

-- the calls were answered, and the lines written in this way
pub record Answers (May : BatchAnswerView → Type 0) (good good_now : Bool) (Wrote : List ℕ → Type 0) : Type 0 where
  pub answer : BatchAnswerView
  pub may : May answer
  pub so : good_now ≡ (good && answer.well)
  pub wrote : Wrote answer.text

-- the lines were written, or, if the sink failed, a prefix of them, or the calls weren't answered and nothing was
-- written
abbrev pub AnsweredBatch : (BatchAnswerView → Type 0) → (AnswerError → Type 0) → Bool → Bool → Option (List ℕ)
    → Option (List ℕ) → ℕ → ℕ → Result (Unit {0}) RunError → Type 0
AnsweredBatch May MayStop good good_now written written_now writes writes_now (Ok done) =
    Answers May good good_now (λ lines. Appends written written_now lines)
AnsweredBatch May MayStop good good_now written written_now writes writes_now (Err error.Sink) =
    Answers May good good_now (λ lines. AppendsFront written written_now lines) × Rose writes writes_now
AnsweredBatch May MayStop good good_now written written_now writes writes_now (Err error.Memory) = ⊥
AnsweredBatch May MayStop good good_now written written_now writes writes_now (Err (error.Stopped stop)) =
    MayStop stop × Appends written written_now []
