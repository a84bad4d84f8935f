-- What a call of the code gives, against what a definition gives. How a fault of the code is named by the definition is
-- an argument: `None` for running out of memory, which is always allowed.
use Rattle.std.specs.Prelude.{◌≡◌, Option, Some, None, Result, Ok, Err}

-- a fault other than running out of memory is the one that the definition gives
abbrev pub IsFaultOf : {Y F : Type 0} → Option F → Result Y F → Type 0
IsFaultOf None read = Unit {0}
IsFaultOf (Some fault) read = read ≡ Err fault

-- the result is what the definition gives, seen so; or memory ran out
abbrev pub Gives : {X Y E F : Type 0} → (E → Option F) → (X → Y) → Result X E → Result Y F → Type 0
Gives fault_seen seen (Ok x) read = read ≡ Ok (seen x)
Gives fault_seen seen (Err fault) read = IsFaultOf (fault_seen fault) read

-- no fault that the definition has: memory ran out
abbrev pub IsMemory : {F : Type 0} → Option F → Type 0
IsMemory None = Unit {0}
IsMemory (Some fault) = ⊥

-- a value with this property came; or memory ran out
abbrev pub IsOkUnlessMemory : {X E F : Type 0} → (E → Option F) → Result X E → (X → Type 0) → Type 0
IsOkUnlessMemory fault_seen (Ok value) P = P value
IsOkUnlessMemory fault_seen (Err fault) P = IsMemory (fault_seen fault)
