-- What the log's reader hands out, and what it takes for it.
use Rattle.std.specs.Prelude.{◌≡◌, ℕ, ◌+◌, ◌*◌, ◌≤◌, Bool, List, [], Option, Some, None, Result, Ok, Err}
use Rattle.std.specs.Io.KnownBytes.{Consumes, IsAtEnd, prepend_known}
use Rattle.call_log.specs.Entry.{Entry, entry_text, most_entries}
use Rattle.call_log.specs.Fault.{Knows}
use Rattle.call_log.specs.Log.{IsNext, Passed, after}
use Rattle.call_log.specs.Supply.{unless_ended}
use Rattle.call_log.specs.declared.fault.LogFault.{LogFault}

-- a reader: how far it has read, the bytes that it took and hasn't used yet, whether its source has said that it has
-- ended, and the fault at which it stopped
pub record LogState : Type 0 where
  pub passed : Passed
  pub ahead : List ℕ
  pub ended : Bool
  pub fault : Option LogFault

-- the bounds within which a reader stays
pub record Bounded (passed : Passed) : Type 0 where
  pub count : passed.count ≤ most_entries
  pub number : passed.number ≤ 4000000000 + passed.count
  pub place : passed.place ≤ 131093 * passed.count

-- what is left to the reader: the bytes ahead, then what the source has left, unless it has said that it has ended
abbrev pub left_to : LogState → Option (List ℕ) → Option (List ℕ)
left_to reader left = prepend_known reader.ahead (unless_ended reader.ended left)

-- the call is the next of the log, and its entry was taken
pub record ReadsEntry (passed : Passed) (left left_now : Option (List ℕ)) (call : Entry) : Type 0 where
  pub next : IsNext passed call
  pub taken : Consumes left left_now (entry_text call)

-- nothing was left
pub record ReadsEnd (left left_now : Option (List ℕ)) : Type 0 where
  pub none_taken : Consumes left left_now []
  pub ended : IsAtEnd left_now

-- some bytes were taken that show the fault
pub record ReadsFault (passed : Passed) (left left_now : Option (List ℕ)) (fault : LogFault) : Type 0 where
  pub taken : List ℕ
  pub consumed : Consumes left left_now taken
  pub known : Knows passed taken left_now fault

-- what was read of what was left
abbrev pub Reads : Passed → Option (List ℕ) → Option (List ℕ) → Result (Option Entry) LogFault → Type 0
Reads passed left left_now (Ok (Some call)) = ReadsEntry passed left left_now call
Reads passed left left_now (Ok None) = ReadsEnd left left_now
Reads passed left left_now (Err fault) = ReadsFault passed left left_now fault

-- what the reader is afterwards, but for the bytes ahead
abbrev pub Moves : Passed → LogState → Result (Option Entry) LogFault → Type 0
Moves passed now (Ok (Some call)) = (now.passed ≡ after passed call) × (now.fault ≡ None)
Moves passed now (Ok None) = (now.passed ≡ passed) × (now.fault ≡ None)
Moves passed now (Err fault) = (now.passed ≡ passed) × (now.fault ≡ Some fault)
