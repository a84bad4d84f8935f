-- What a run over a log promises, for each status, in the words of its command.
use Rattle.std.specs.Prelude.{◌≡◌, ◌≢◌, ℕ, ◌≤◌, ◌⊎◌, List, [], ◌++◌, Option, Some, IfSome}
use Rattle.std.specs.Io.KnownBytes.{Appends, Consumes, IsAtEnd}
use Rattle.call_log.specs.Entry.{Entry}
use Rattle.call_log.specs.Log.{LogText, Passed, after_all}
use Rattle.log_run.specs.Batch.{Batch, IsCut, all_well, calls_in, texts_in}
use Rattle.log_run.specs.Ending.{failed_line, refused_line, report_status, unread_line}
use Rattle.log_run.specs.Reading.{CallsRead, IsFaulty}
use Rattle.log_run.specs.Streams.{Streams}
use Rattle.stir_outside.specs.Count.{NotRisen, Rose}
use Rattle.stir_outside.specs.Ending.{memory_line}
use Rattle.stir_outside.specs.Told.{AppendsFront}

-- what a command says of the batches that it answered
pub record Words : Type 1 where
  -- how many calls a batch has, but the last
  pub most : ℕ
  -- the batches may have been answered so
  pub Known : List Batch → Type 0
  -- and then these calls come at which the run stops: these lines of them were to be written, and the file of this name
  -- couldn't be read
  pub Stops : List Batch → List Entry → List ℕ → List ℕ → Type 0
  -- or this text closes the report
  pub Closes : List Batch → List ℕ → Type 0

-- what is around a run: what is left of the log, and the streams
pub record RunState : Type 0 where
  pub left : Option (List ℕ)
  pub streams : Streams

abbrev pub run_state : Option (List ℕ) → Streams → RunState
run_state left streams = record { left = left; streams = streams }

-- the batches are cut from the first calls of the log, and were answered
pub record FirstBatches (words : Words) (passed : Passed) (left : Option (List ℕ)) (batches : List Batch) : Type 0 where
  pub cut : IsCut words.most batches
  pub first : CallsRead passed left (calls_in batches)
  pub known : words.Known batches

-- the bytes are these calls and what comes after them, which is at fault at this place
pub record PartLog (passed : Passed) (bytes : List ℕ) (calls : List Entry) (place : ℕ) : Type 0 where
  pub rest : List ℕ
  pub log : LogText passed bytes calls rest
  pub fault : IsFaulty (after_all passed calls) place rest

-- the source failed, and these are the calls of the log in the bytes that were taken
pub record TakenLog (passed : Passed) (before now : RunState) (calls : List Entry) : Type 0 where
  pub failed : Rose before.streams.read_faults now.streams.read_faults
  pub taken : List ℕ
  pub consumed : Consumes before.left now.left taken
  pub rest : List ℕ
  pub log : LogText passed taken calls rest

-- the run stopped at the calls that come next, and this is to be written of it
pub record StopsWith (words : Words) (passed : Passed) (left : Option (List ℕ)) (batches : List Batch)
    (line : List ℕ) : Type 0 where
  pub calls : List Entry
  pub text : List ℕ
  pub name : List ℕ
  pub next : CallsRead passed left (calls_in batches ++ calls)
  pub stops : words.Stops batches calls text name
  pub says : line ≡ text ++ unread_line name

-- ---- status 0 and 1

-- The log was read to its end; its calls were answered; their lines and the closing text were written, and nothing
-- else; and the status says whether all is well; and the count of failed writes didn't fall. If the bytes are told,
-- they are a whole log.
pub record DoneReport (words : Words) (passed : Passed) (before now : RunState) (status : ℕ) : Type 0 where
  pub batches : List Batch
  pub answered : FirstBatches words passed before.left batches
  pub log : IfSome before.left (λ bytes. LogText passed bytes (calls_in batches) [])
  pub text : List ℕ
  pub closes : words.Closes batches text
  pub stay : before.streams.write_faults ≤ now.streams.write_faults
  pub reported : Appends before.streams.written now.streams.written (texts_in batches ++ text)
  pub said : status ≡ report_status (all_well batches)

-- ---- status 5

-- The calls before a fault of the log were answered; their lines, the closing text and the line of the fault were
-- written. If the bytes are told, they are at fault there.
pub record PartReport (words : Words) (passed : Passed) (before now : RunState) : Type 0 where
  pub batches : List Batch
  pub answered : FirstBatches words passed before.left batches
  pub place : ℕ
  pub part : IfSome before.left (λ bytes. PartLog passed bytes (calls_in batches) place)
  pub text : List ℕ
  pub closes : words.Closes batches text
  pub reported : Appends before.streams.written now.streams.written (texts_in batches ++ (text ++ refused_line place))

-- ---- status 3

-- The source failed; the calls that were read were answered; their lines, the closing text and the line of the failure
-- were written.
pub record FailedReport (words : Words) (passed : Passed) (before now : RunState) : Type 0 where
  pub batches : List Batch
  pub answered : FirstBatches words passed before.left batches
  pub taken : TakenLog passed before now (calls_in batches)
  pub text : List ℕ
  pub closes : words.Closes batches text
  pub reported : Appends before.streams.written now.streams.written (texts_in batches ++ (text ++ failed_line))

-- A file stopped the run; the calls before were answered; their lines and the last ones were written.
pub record StoppedReport (words : Words) (passed : Passed) (before now : RunState) : Type 0 where
  pub batches : List Batch
  pub answered : FirstBatches words passed before.left batches
  pub line : List ℕ
  pub stopped : StopsWith words passed before.left batches line
  pub reported : Appends before.streams.written now.streams.written (texts_in batches ++ line)

-- ---- status 4 and 6

-- what may come after the closing text: nothing, or the line of an event that came
abbrev pub MayEndWith : Passed → RunState → RunState → List Entry → List ℕ → Type 0
MayEndWith passed before now calls line =
    (line ≡ []) ⊎ ((line ≡ memory_line) ⊎ (((line ≡ failed_line) × TakenLog passed before now calls)
    ⊎ ((place : ℕ) × (line ≡ refused_line place) × IfSome before.left (λ bytes. PartLog passed bytes calls place))))

-- the report was closed by a text, and this is to be written after the batches
pub record ClosesWith (words : Words) (passed : Passed) (before now : RunState) (batches : List Batch)
    (line : List ℕ) : Type 0 where
  pub text : List ℕ
  pub closes : words.Closes batches text
  pub end : List ℕ
  pub may_end : MayEndWith passed before now (calls_in batches) end
  pub says : line ≡ text ++ end

-- what may come after the lines of these batches
abbrev pub MayComeAfter : Words → Passed → RunState → RunState → List Batch → List ℕ → Type 0
MayComeAfter words passed before now batches line = (line ≡ []) ⊎ ((line ≡ memory_line)
    ⊎ (StopsWith words passed before.left batches line ⊎ ClosesWith words passed before now batches line))

-- The sink failed; the first calls of the log were answered; a prefix of their lines and of what may come after them
-- was written.
pub record FrontReport (words : Words) (passed : Passed) (before now : RunState) : Type 0 where
  pub failed : Rose before.streams.write_faults now.streams.write_faults
  pub batches : List Batch
  pub answered : FirstBatches words passed before.left batches
  pub line : List ℕ
  pub may_come : MayComeAfter words passed before now batches line
  pub front : AppendsFront before.streams.written now.streams.written (texts_in batches ++ line)

-- Memory ran out; the first calls of the log were answered; their lines, the closing text if it came so far, and the
-- last line were written.
pub record ShortReport (words : Words) (passed : Passed) (before now : RunState) : Type 0 where
  pub batches : List Batch
  pub answered : FirstBatches words passed before.left batches
  pub text : List ℕ
  pub may_close : (text ≡ []) ⊎ words.Closes batches text
  pub reported : Appends before.streams.written now.streams.written (texts_in batches ++ (text ++ memory_line))

-- ---- which status comes

-- no file stops the run
abbrev pub NeverStops : Words → Type 0
NeverStops words = (batches : List Batch) (calls : List Entry) (text name : List ℕ)
    → words.Stops batches calls text name → ⊥

-- If no read of the log and no write failed, and no file stops the run, a whole log has a whole report, and one that
-- isn't whole is refused; or memory ran out.
abbrev pub AnswersWhole : Words → Passed → RunState → RunState → ℕ → Type 0
AnswersWhole words passed before now status = (bytes : List ℕ) (calls : List Entry) → before.left ≡ Some bytes
    → LogText passed bytes calls [] → NotRisen before.streams.read_faults now.streams.read_faults
    → NotRisen before.streams.write_faults now.streams.write_faults → NeverStops words → (status ≤ 1) ⊎ (status ≡ 6)

abbrev pub AnswersFaulty : Words → Passed → RunState → RunState → ℕ → Type 0
AnswersFaulty words passed before now status = (bytes rest : List ℕ) (calls : List Entry) → before.left ≡ Some bytes
    → LogText passed bytes calls rest → rest ≢ [] → NotRisen before.streams.read_faults now.streams.read_faults
    → NotRisen before.streams.write_faults now.streams.write_faults → NeverStops words → (status ≡ 5) ⊎ (status ≡ 6)

-- ---- the whole

-- each status with what came of it, and which status comes; the count of failed reads of the log never falls
pub record LogSays (words : Words) (passed : Passed) (before now : RunState) (status : ℕ) : Type 0 where
  pub known : status ≤ 6
  pub no_words : status ≢ 2
  pub stay : before.streams.read_faults ≤ now.streams.read_faults
  pub done : status ≤ 1 → DoneReport words passed before now status
  pub ended : status ≤ 1 → IsAtEnd now.left
  pub fails : status ≡ 3 → FailedReport words passed before now ⊎ StoppedReport words passed before now
  pub sink_failed : status ≡ 4 → FrontReport words passed before now
  pub refuses : status ≡ 5 → PartReport words passed before now
  pub short : status ≡ 6 → ShortReport words passed before now
  pub answers_whole : AnswersWhole words passed before now status
  pub answers_faulty : AnswersFaulty words passed before now status
