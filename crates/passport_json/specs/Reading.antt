-- What a reader's result says of a text; out of memory is left free.
use Rattle.std.specs.Prelude.{Option, Some, None, Result, Ok, Err, IfSome, ⊤}
use Rattle.lists.specs.Given as given
use Rattle.passport_json.specs.declared.fault.TokenFault.{TokenFault}
use Rattle.passport_json.specs.declared.fault.TokenFault.TheVariants.{Memory}

-- a fault other than out of memory
abbrev pub fault_seen : TokenFault → Option TokenFault
fault_seen Memory = None
fault_seen fault = Some fault

-- the result is what the definition gives, seen so; or memory ran out
abbrev pub Gives : {X A : Type 0} → (X → A) → Result X TokenFault → Result A TokenFault → Type 0
Gives seen result read = given.Gives fault_seen seen result read

-- a value with this property came; or memory ran out
abbrev pub IsOkUnlessMemory : {X : Type 0} → Result X TokenFault → (X → Type 0) → Type 0
IsOkUnlessMemory result P = given.IsOkUnlessMemory fault_seen result P

-- a fault has this property; out of memory is free
abbrev pub IfRefused : {X : Type 0} → Result X TokenFault → (TokenFault → Type 0) → Type 0
IfRefused (Ok value) P = ⊤
IfRefused (Err fault) P = IfSome (fault_seen fault) P
