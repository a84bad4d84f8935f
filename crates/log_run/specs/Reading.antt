-- The calls of a log as they are read, one after another, and where the reading of a batch stops.
use Rattle.std.specs.Prelude.{◌≡◌, ⊤, ℕ, ◌+◌, ◌≤◌, ◌<◌, ◌⊎◌, List, [], length, Option, Some, None, Result, Ok, Err}
use Rattle.std.specs.Io.KnownBytes.{Consumes}
use Rattle.call_log.specs.Entry.{Entry, most_entries}
use Rattle.call_log.specs.Fault.{IsBackward, IsGrammar, IsMany}
use Rattle.call_log.specs.HandsOut.{HandsOutOf}
use Rattle.call_log.specs.Log.{AreCalls, LogText, Passed, after_all, entry_texts}
use Rattle.call_log.specs.Reads.{LogState, Reads}
use Rattle.call_log.specs.declared.fault.LogFault.{LogFault}
use Rattle.log_run.specs.declared.ends.Next.{Next}
use Rattle.log_run.specs.declared.ends.Next.TheVariants.{More, Whole, Fault}
use Rattle.stir_outside.specs.Count.{Rose}

-- the calls come next in the log, and their entries were taken
pub record ReadCalls (before : Passed) (left left_now : Option (List ℕ)) (now : Passed)
    (calls : List Entry) : Type 0 where
  pub follow : AreCalls before calls
  pub consumed : Consumes left left_now (entry_texts calls)
  pub moves : now ≡ after_all before calls

-- what was read after the last whole entry, and what that says of all that was left
pub record ReadBehind (passed : Passed) (left left_now : Option (List ℕ))
    (result : Result (Option Entry) LogFault) : Type 0 where
  pub reads : Reads passed left left_now result
  pub hands_out : HandsOutOf passed left left_now result

-- the calls that were read, with what is left if that is known
pub record CallsRead (passed : Passed) (left : Option (List ℕ)) (calls : List Entry) : Type 0 where
  pub mid : Passed
  pub mid_left : Option (List ℕ)
  pub read : ReadCalls passed left mid_left mid calls

-- the source failed, and what is left to the reader is what the source has left
pub record SourceFailed (faults faults_now : ℕ) (Drained : Type 0) : Type 0 where
  pub rose : Rose faults faults_now
  pub drained : Drained

-- nothing of the log was at fault, and the numbers leave room for all calls that may follow
pub record ReadsOn (reader : LogState) : Type 0 where
  pub good : reader.fault ≡ None
  pub bounded : reader.passed.count ≤ most_entries
  pub room : reader.passed.number ≤ 4000000000 + reader.passed.count

-- ---- a fault

-- what is at this offset after the calls is no entry, one whose moment falls, or one too many
abbrev pub IsFaulty : Passed → ℕ → List ℕ → Type 0
IsFaulty passed place rest = IsGrammar passed place rest ⊎ (IsBackward passed place rest ⊎ IsMany passed place rest)

-- what is left after the calls that were read is so, if it is known what is left
abbrev pub FaultyAt : Passed → Option (List ℕ) → ℕ → Type 0
FaultyAt passed None place = ⊤
FaultyAt passed (Some rest) place = LogText passed rest [] rest × IsFaulty passed place rest

-- ---- a batch

-- as many calls were read as a batch has
pub record ReadFull (most : ℕ) (before : Passed) (left left_now : Option (List ℕ)) (now : Passed)
    (calls : List Entry) : Type 0 where
  pub read : ReadCalls before left left_now now calls
  pub full : length calls ≡ most

-- fewer were read, and this comes after them
pub record ReadLast (most : ℕ) (before : Passed) (left left_now : Option (List ℕ)) (calls : List Entry)
    (result : Result (Option Entry) LogFault) : Type 0 where
  pub mid : Passed
  pub mid_left : Option (List ℕ)
  pub read : ReadCalls before left mid_left mid calls
  pub few : length calls < most
  pub behind : ReadBehind mid mid_left left_now result

-- running out of memory is free
abbrev pub ReadBatch : {E : Type 0} → ℕ → Passed → Option (List ℕ) → Option (List ℕ) → Passed
    → List Entry → Result Next E → Type 0
ReadBatch most before left left_now now calls (Ok More) = ReadFull most before left left_now now calls
ReadBatch most before left left_now now calls (Ok Whole) = ReadLast most before left left_now calls (Ok None)
ReadBatch most before left left_now now calls (Ok (Fault fault)) = ReadLast most before left left_now calls (Err fault)
ReadBatch most before left left_now now calls (Err memory) = ⊤
