-- How a run over a log ends: the text that closes the report, the last line and the status (this project's own rule).
use Rattle.std.specs.Prelude.{◌≡◌, ℕ, ◌≤◌, ◌⊎◌, Bool, ◌&&◌, List, [], ◌++◌, codes, string_bytes, Option, Some, None, Ok}
use Rattle.std.specs.Prelude.{Err, if◌then◌else◌}
use Rattle.std.specs.Fmt.{decimal}
use Rattle.std.specs.Io.KnownBytes.{Appends}
use Rattle.std.specs.declared.string.String.{String}
use Rattle.std.specs.declared.alloc.Global.{Global}
use Rattle.call_log.specs.Entry.{Entry}
use Rattle.call_log.specs.declared.fault.LogFault.{LogFault}
use Rattle.call_log.specs.declared.fault.LogFault.TheVariants.{Grammar, Backward, Many, Source, Memory as WantOfMemory}
use Rattle.log_run.specs.Batch.{Batch, IsCut, all_well, calls_in, texts_in}
use Rattle.log_run.specs.Reading.{FaultyAt, ReadBehind, ReadCalls, SourceFailed}
use Rattle.log_run.specs.Running.{At, StopsNext}
use Rattle.log_run.specs.Streams.{Streams}
use Rattle.log_run.specs.declared.ends.RunError.{RunError}
use Rattle.log_run.specs.declared.ends.RunError.TheVariants as error
use Rattle.log_run.specs.declared.stop.AnswerError.{AnswerError}
use Rattle.log_run.specs.declared.stop.AnswerError.TheVariants.{Unread, Memory}
use Rattle.stir_outside.specs.Count.{Rose}
use Rattle.stir_outside.specs.Ending.{EndsAs, memory_line}
use Rattle.stir_outside.specs.Told.{AppendsFront}

-- the status of a whole report
abbrev pub report_status : Bool → ℕ
report_status good = if good then 0 else 1

-- the log is outside its grammar at this offset
unfoldable pub refused_line : ℕ → List ℕ
refused_line place = codes "refused input " ++ (decimal place ++ codes "\n")

unfoldable pub failed_line : List ℕ
failed_line = codes "read fault input\n"

-- the line of the log's fault, unless memory runs out for it
abbrev pub EndsRefused : Option (List ℕ) → Option (List ℕ) → ℕ → ℕ → ℕ → ℕ → Type 0
EndsRefused written written_now writes writes_now result place = EndsAs written written_now writes writes_now result
    (refused_line place) 5 ⊎ EndsAs written written_now writes writes_now result memory_line 6

abbrev pub EndsAtFault : Option (List ℕ) → Option (List ℕ) → ℕ → ℕ → ℕ → LogFault → Type 0
EndsAtFault written written_now writes writes_now result (Grammar place) =
    EndsRefused written written_now writes writes_now result place
EndsAtFault written written_now writes writes_now result (Backward place) =
    EndsRefused written written_now writes writes_now result place
EndsAtFault written written_now writes writes_now result (Many place) =
    EndsRefused written written_now writes writes_now result place
EndsAtFault written written_now writes writes_now result Source =
    EndsAs written written_now writes writes_now result failed_line 3
EndsAtFault written written_now writes writes_now result WantOfMemory =
    EndsAs written written_now writes writes_now result memory_line 6

-- nothing more was written, and this status answered
pub record EndsAlone (written written_now : Option (List ℕ)) (writes writes_now result status : ℕ) : Type 0 where
  pub answered : result ≡ status
  pub same_written : written_now ≡ written
  pub same_writes : writes_now ≡ writes

-- the file of certificates of this name couldn't be read
unfoldable pub unread_line : List ℕ → List ℕ
unread_line name = codes "read fault " ++ (name ++ codes "\n")

-- these lines of the calls and the line of the file, unless memory runs out for it
abbrev pub EndsUnread : Option (List ℕ) → Option (List ℕ) → ℕ → ℕ → ℕ → List ℕ → List ℕ → Type 0
EndsUnread written written_now writes writes_now result text name = EndsAs written written_now writes writes_now result
    (text ++ unread_line name) 3 ⊎ EndsAs written written_now writes writes_now result memory_line 6

abbrev pub EndsStopped : Option (List ℕ) → Option (List ℕ) → ℕ → ℕ → ℕ → AnswerError → Type 0
EndsStopped written written_now writes writes_now result (Unread text name) =
    EndsUnread written written_now writes writes_now result (string_bytes text) (string_bytes name)
EndsStopped written written_now writes writes_now result Memory =
    EndsAs written written_now writes writes_now result memory_line 6

-- what comes after the closing text
abbrev pub EndsAt : Option (List ℕ) → Option (List ℕ) → ℕ → ℕ → ℕ → Bool → Option LogFault → Type 0
EndsAt written written_now writes writes_now result good None =
    EndsAlone written written_now writes writes_now result (report_status good)
EndsAt written written_now writes writes_now result good (Some fault) =
    EndsAtFault written written_now writes writes_now result fault

-- the text was written whole, and then the end came
pub record EndsBehind (written written_now : Option (List ℕ)) (writes writes_now result : ℕ) (text : List ℕ)
    (good : Bool) (fault : Option LogFault) : Type 0 where
  pub between : Option (List ℕ)
  pub writes_between : ℕ
  pub wrote : Appends written between text
  pub stay : writes ≤ writes_between
  pub ends : EndsAt between written_now writes_between writes_now result good fault

-- the sink failed, and a prefix of the text was written
pub record FailsIn (written written_now : Option (List ℕ)) (writes writes_now result : ℕ) (text : List ℕ) : Type 0 where
  pub answered : result ≡ 4
  pub rose : Rose writes writes_now
  pub front : AppendsFront written written_now text

-- the report was closed by a text, and ended
pub record ClosedBy (Closed : List ℕ → Type 0) (written written_now : Option (List ℕ)) (writes writes_now result : ℕ)
    (good : Bool) (fault : Option LogFault) : Type 0 where
  pub text : List ℕ
  pub closed : Closed text
  pub wrote : EndsBehind written written_now writes writes_now result text good fault
      ⊎ FailsIn written written_now writes writes_now result text

-- or memory ran out for that text
abbrev pub CloseRan : Type 0 → (List ℕ → Type 0) → Option (List ℕ) → Option (List ℕ) → ℕ → ℕ → ℕ → Bool
    → Option LogFault → Type 0
CloseRan Short Closed written written_now writes writes_now result good fault =
    (Short × EndsAs written written_now writes writes_now result memory_line 6)
    ⊎ ClosedBy Closed written written_now writes writes_now result good fault

-- if the run was stopped before the log ended
abbrev pub EndsHalted : Option (List ℕ) → Option (List ℕ) → ℕ → ℕ → ℕ → RunError → Type 0
EndsHalted written written_now writes writes_now result error.Sink =
    EndsAlone written written_now writes writes_now result 4
EndsHalted written written_now writes writes_now result error.Memory =
    EndsAs written written_now writes writes_now result memory_line 6
EndsHalted written written_now writes writes_now result (error.Stopped stop) =
    EndsStopped written written_now writes writes_now result stop

-- ---- the whole

-- a line that may come after the report and its closing text, with its cause
abbrev pub MayEnd : At → Type 0 → Option (List ℕ) → Streams → Streams → List ℕ → Type 0
MayEnd mid Drained left_now outside outside_now line =
    (line ≡ []) ⊎ ((line ≡ memory_line) ⊎ (((line ≡ failed_line) × ReadBehind mid.passed mid.left left_now (Err Source)
    × SourceFailed outside.read_faults outside_now.read_faults Drained)
    ⊎ ((place : ℕ) × (line ≡ refused_line place) × FaultyAt mid.passed mid.left place)))

-- what is to be written of a stop
abbrev pub IsStopLine : AnswerError → List ℕ → Type 0
IsStopLine (Unread text name) line =
    (line ≡ string_bytes text ++ unread_line (string_bytes name)) ⊎ (line ≡ memory_line)
IsStopLine Memory line = line ≡ memory_line

-- the run stopped at calls that come next, and this is to be written of it
pub record StopSays (Stopped : List Entry → AnswerError → Type 0) (mid : At) (line : List ℕ) : Type 0 where
  pub stop : AnswerError
  pub stops : StopsNext Stopped mid stop
  pub says : IsStopLine stop line

-- the report was closed by a text, and this is to be written after the batches
pub record CloseSays (Closed : List ℕ → Type 0) (May : List ℕ → Type 0) (line : List ℕ) : Type 0 where
  pub text : List ℕ
  pub end : List ℕ
  pub closed : Closed text
  pub may_end : May end
  pub says : line ≡ text ++ end

-- what may come after the lines of the batches, whole or not, and what is known of the batches then
abbrev pub MayStand : Type 0 → (List Entry → AnswerError → Type 0) → (List ℕ → Type 0)
    → (List ℕ → Type 0) → At → List ℕ → Type 0
MayStand Known Stopped Closed May mid line =
    (Known × ((line ≡ []) ⊎ (line ≡ memory_line))) ⊎ (StopSays Stopped mid line ⊎ CloseSays Closed May line)

-- what may come between these lines and the line that says that memory ran out
abbrev pub MayBeShort : Type 0 → (List Entry → AnswerError → Type 0) → (List ℕ → Type 0) → At → List ℕ → Type 0
MayBeShort Known Stopped Closed mid text =
    (Known × (text ≡ [])) ⊎ ((((stop : AnswerError) × StopsNext Stopped mid stop) × (text ≡ [])) ⊎ Closed text)

-- 0 and 1
pub record EndedWhole (Closed : List ℕ → Type 0) (mid : At) (left_now : Option (List ℕ)) (lines : List ℕ)
    (outside outside_now : Streams) (status : ℕ) : Type 0 where
  pub text : List ℕ
  pub closed : Closed text
  pub behind : ReadBehind mid.passed mid.left left_now (Ok None)
  pub stay : outside.write_faults ≤ outside_now.write_faults
  pub reported : Appends outside.written outside_now.written (lines ++ text)
  pub said : status ≡ report_status mid.good

-- 5
pub record EndedFaulty (Closed : List ℕ → Type 0) (mid : At) (lines : List ℕ) (outside outside_now : Streams)
    (status : ℕ) : Type 0 where
  pub text : List ℕ
  pub closed : Closed text
  pub place : ℕ
  pub faulty : FaultyAt mid.passed mid.left place
  pub reported : Appends outside.written outside_now.written (lines ++ (text ++ refused_line place))
  pub said : status ≡ 5

-- 3: the source failed
pub record EndedFailed (Closed : List ℕ → Type 0) (mid : At) (Drained : Type 0) (left_now : Option (List ℕ))
    (lines : List ℕ) (outside outside_now : Streams) (status : ℕ) : Type 0 where
  pub text : List ℕ
  pub closed : Closed text
  pub behind : ReadBehind mid.passed mid.left left_now (Err Source)
  pub failed : SourceFailed outside.read_faults outside_now.read_faults Drained
  pub reported : Appends outside.written outside_now.written (lines ++ (text ++ failed_line))
  pub said : status ≡ 3

-- 3: a file stopped it
pub record EndedStopped (Stopped : List Entry → AnswerError → Type 0) (mid : At) (lines : List ℕ)
    (outside outside_now : Streams) (status : ℕ) : Type 0 where
  pub text : String Global
  pub name : String Global
  pub stops : StopsNext Stopped mid (Unread text name)
  pub reported : Appends outside.written outside_now.written
      (lines ++ (string_bytes text ++ unread_line (string_bytes name)))
  pub said : status ≡ 3

-- 6
pub record EndedShort (May : List ℕ → Type 0) (lines : List ℕ) (outside outside_now : Streams)
    (status : ℕ) : Type 0 where
  pub text : List ℕ
  pub may : May text
  pub reported : Appends outside.written outside_now.written (lines ++ (text ++ memory_line))
  pub said : status ≡ 6

-- 4
pub record EndedFront (May : List ℕ → Type 0) (lines : List ℕ) (outside outside_now : Streams)
    (status : ℕ) : Type 0 where
  pub line : List ℕ
  pub may : May line
  pub rose : Rose outside.write_faults outside_now.write_faults
  pub front : AppendsFront outside.written outside_now.written (lines ++ line)
  pub said : status ≡ 4

abbrev pub EndedSo : Type 0 → (List Entry → AnswerError → Type 0) → (List ℕ → Type 0) → At → Type 0 → Option (List ℕ)
    → List ℕ → Streams → Streams → ℕ → Type 0
EndedSo Known Stopped Closed mid Drained left_now lines outside outside_now status = EndedWhole Closed mid left_now
    lines outside outside_now status ⊎ (EndedFaulty Closed mid lines outside outside_now status ⊎ (EndedFailed Closed
    mid Drained left_now lines outside outside_now status ⊎ (EndedStopped Stopped mid lines outside outside_now status
    ⊎ (EndedShort (MayBeShort Known Stopped Closed mid) lines outside outside_now status ⊎ EndedFront (MayStand Known
    Stopped Closed (MayEnd mid Drained left_now outside outside_now) mid) lines outside outside_now status))))

-- batches of the log were answered and their lines written, and then the run ended in one of these ways
pub record LogRan (most : ℕ) (Known : List Batch → Type 0) (Stopped : List Batch → List Entry → AnswerError → Type 0)
    (Closed : List Batch → List ℕ → Type 0) (before : At) (Drained : Type 0) (left_now : Option (List ℕ))
    (outside outside_now : Streams) (status : ℕ) : Type 0 where
  pub batches : List Batch
  pub mid : At
  pub cut : IsCut most batches
  pub read : ReadCalls before.passed before.left mid.left mid.passed (calls_in batches)
  pub good_so : mid.good ≡ (before.good && all_well batches)
  pub stay : outside.read_faults ≤ outside_now.read_faults
  pub so : EndedSo (Known batches) (Stopped batches) (Closed batches) mid Drained left_now (texts_in batches)
      outside outside_now status
