-- The source of a log and the sink of its report, as a run moves them.
use Rattle.std.specs.Prelude.{⊤, ℕ, ◌≤◌, List, Option, Some, None, Result, Ok, Err}
use Rattle.call_log.specs.Log.{Passed}
use Rattle.call_log.specs.declared.fault.LogFault.{LogFault}
use Rattle.call_log.specs.declared.fault.LogFault.TheVariants.{Grammar, Backward, Many, Source, Memory}
use Rattle.log_run.specs.Reading.{ReadBehind, SourceFailed}
use Rattle.stir_outside.specs.declared.sink.Sink.{Ghosts as SinkOf}
use Rattle.stir_outside.specs.declared.source.Source.{Ghosts as SourceOf}

-- how often reads of the log failed, what was written, and how often writes failed
pub record Streams : Type 0 where
  pub read_faults : ℕ
  pub written : Option (List ℕ)
  pub write_faults : ℕ

abbrev pub streams : ℕ → Option (List ℕ) → ℕ → Streams
streams reads written writes = record { read_faults = reads; written = written; write_faults = writes }

-- of a source and a sink
abbrev pub streams_of : {I O : Type 0} → SourceOf I → SinkOf O → I → O → Streams
streams_of bytes lines input sink = streams (bytes.faults input) (lines.written sink) (lines.faults sink)

-- neither count of failures fell
pub record StreamsStay (before now : Streams) : Type 0 where
  pub read_faults : before.read_faults ≤ now.read_faults
  pub write_faults : before.write_faults ≤ now.write_faults

-- the log was read to its end or to its fault, if that ended the run
abbrev pub BehindBy : {X : Type 0} → Passed → Option (List ℕ) → Option (List ℕ) → Result (Option LogFault) X → Type 0
BehindBy passed left left_now (Ok None) = ReadBehind passed left left_now (Ok None)
BehindBy passed left left_now (Ok (Some fault)) = ReadBehind passed left left_now (Err fault)
BehindBy passed left left_now (Err stopped) = ⊤

-- if a failure of the source ended the log, the source failed, and then this holds besides
abbrev pub SourceRose : Streams → Streams → Type 0 → Option LogFault → Type 0
SourceRose before now Drained None = ⊤
SourceRose before now Drained (Some (Grammar place)) = ⊤
SourceRose before now Drained (Some (Backward place)) = ⊤
SourceRose before now Drained (Some (Many place)) = ⊤
SourceRose before now Drained (Some Source) = SourceFailed before.read_faults now.read_faults Drained
SourceRose before now Drained (Some Memory) = ⊤
