-- What a reader's result says of a token; out of memory is left free.
use Rattle.std.specs.Prelude.{Option, Some, None, Result, Ok, Err, IfSome, ⊤}
use Rattle.lists.specs.Given as given
use Rattle.passport_claims.specs.declared.fault.ClaimFault.{ClaimFault}
use Rattle.passport_claims.specs.declared.fault.ClaimFault.TheVariants as faults

-- what is there, or that it is broken
abbrev pub or_fault : {A : Type 0} → ClaimFault → Option A → Result A ClaimFault
or_fault broken None = Err broken
or_fault broken (Some value) = Ok value

-- a fault other than out of memory
abbrev pub fault_seen : ClaimFault → Option ClaimFault
fault_seen faults.Memory = None
fault_seen broken = Some broken

-- the result is what the definition gives, seen so; or memory ran out
abbrev pub Gives : {X A : Type 0} → (X → A) → Result X ClaimFault → Result A ClaimFault → Type 0
Gives seen result read = given.Gives fault_seen seen result read

-- a value with this property came; or memory ran out
abbrev pub IsOkUnlessMemory : {X : Type 0} → Result X ClaimFault → (X → Type 0) → Type 0
IsOkUnlessMemory result P = given.IsOkUnlessMemory fault_seen result P

-- a fault has this property; out of memory is free
abbrev pub IfRefused : {X : Type 0} → Result X ClaimFault → (ClaimFault → Type 0) → Type 0
IfRefused (Ok value) P = ⊤
IfRefused (Err fault) P = IfSome (fault_seen fault) P
