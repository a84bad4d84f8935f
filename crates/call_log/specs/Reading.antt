-- The exact reading of an entry, piece by piece: `front` is what was taken of it before.
use Rattle.std.specs.Prelude.{◌≡◌, ℕ, List, [], ◌++◌, Option, Some, None, Result, Ok, Err}
use Rattle.std.specs.Io.KnownBytes.{Consumes, IsAtEnd}
use Rattle.call_log.specs.Entry.{Entry, entry_text}
use Rattle.call_log.specs.Fault.{Knows}
use Rattle.call_log.specs.Log.{IsNext, Passed}
use Rattle.call_log.specs.declared.fault.LogFault.{LogFault}
use Rattle.call_log.specs.declared.fault.LogFault.TheVariants.{Source as SourceFault, Memory as MemoryFault}
use Rattle.stir_outside.specs.declared.transfer.ReadFault.{ReadFault}
use Rattle.stir_outside.specs.declared.transfer.ReadFault.TheVariants.{Source, Memory}

abbrev pub fault_of_read : ReadFault → LogFault
fault_of_read Source = SourceFault
fault_of_read Memory = MemoryFault

-- what was taken is the rest of the entry
pub record FindsEntry (passed : Passed) (front : List ℕ) (left left_now : Option (List ℕ)) (call : Entry) : Type 0 where
  pub next : IsNext passed call
  pub taken : List ℕ
  pub consumed : Consumes left left_now taken
  pub whole : front ++ taken ≡ entry_text call

pub record FindsEnd (front : List ℕ) (left left_now : Option (List ℕ)) : Type 0 where
  pub none_before : front ≡ []
  pub none_taken : Consumes left left_now []
  pub ended : IsAtEnd left_now

pub record FindsFault (passed : Passed) (front : List ℕ) (left left_now : Option (List ℕ))
    (fault : LogFault) : Type 0 where
  pub taken : List ℕ
  pub consumed : Consumes left left_now taken
  pub known : Knows passed (front ++ taken) left_now fault

abbrev pub Finds : Passed → List ℕ → Option (List ℕ) → Option (List ℕ) → Result (Option Entry) LogFault → Type 0
Finds passed front left left_now (Ok (Some call)) = FindsEntry passed front left left_now call
Finds passed front left left_now (Ok None) = FindsEnd front left left_now
Finds passed front left left_now (Err fault) = FindsFault passed front left left_now fault
