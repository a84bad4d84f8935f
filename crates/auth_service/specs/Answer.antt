-- What the signer answers. Out of memory is left free, and so is a failure of the provider, which has its own cause.
use Rattle.std.specs.Prelude.{ℕ, Bool, true, false, Option, Some, None, Result, Ok, Err}
use Rattle.auth_service.specs.declared.fault.SignFault.{SignFault}
use Rattle.auth_service.specs.declared.fault.SignFault.TheVariants as faults

-- a fault that message, order, holder and provider's answer decide
abbrev pub decided : SignFault → Option SignFault
decided faults.Form = Some faults.Form
decided faults.NoNumber = Some faults.NoNumber
decided faults.Authority = Some faults.Authority
decided (faults.NoSignature digest) = Some (faults.NoSignature digest)
decided faults.Provider = None
decided faults.Memory = None

abbrev pub is_provider : SignFault → Bool
is_provider faults.Form = false
is_provider faults.NoNumber = false
is_provider faults.Authority = false
is_provider (faults.NoSignature digest) = false
is_provider faults.Provider = true
is_provider faults.Memory = false

-- the answer is that the provider failed
abbrev pub names_provider : {X : Type 0} → Result X SignFault → Bool
names_provider (Ok x) = false
names_provider (Err fault) = is_provider fault

-- 1 to 5, in the order of the faults' names; out of memory has none
abbrev pub number_of : SignFault → Option ℕ
number_of faults.Form = Some 1
number_of faults.NoNumber = Some 2
number_of faults.Authority = Some 3
number_of (faults.NoSignature digest) = Some 4
number_of faults.Provider = Some 5
number_of faults.Memory = None
