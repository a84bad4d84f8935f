-- What the gateway answers. Out of memory may come in any case, and so may a failure of the provider, which has its own
-- cause. A verdict has its own clauses.
use Rattle.std.specs.Prelude.{ℕ, Bool, true, false, Option, Some, None, Result, Ok, Err}
use Rattle.auth_service.specs.declared.fault.SignFault.{SignFault}
use Rattle.auth_service.specs.declared.fault.SignFault.TheVariants as signing
use Rattle.retarget.specs.declared.fault.HopFault.{HopFault}
use Rattle.retarget.specs.declared.fault.HopFault.TheVariants as faults

-- a fault that message, call, hop, holder and the provider's answer decide
abbrev pub decided : HopFault → Option HopFault
decided (faults.Verdict verdict) = None
decided faults.Target = Some faults.Target
decided faults.Loop = Some faults.Loop
decided faults.Full = Some faults.Full
decided faults.Size = Some faults.Size
decided faults.Authority = Some faults.Authority
decided (faults.NoSignature digest) = Some (faults.NoSignature digest)
decided faults.Provider = None
decided faults.Memory = None

abbrev pub is_provider : HopFault → Bool
is_provider (faults.Verdict verdict) = false
is_provider faults.Target = false
is_provider faults.Loop = false
is_provider faults.Full = false
is_provider faults.Size = false
is_provider faults.Authority = false
is_provider (faults.NoSignature digest) = false
is_provider faults.Provider = true
is_provider faults.Memory = false

-- the answer is that the provider failed at the signature
abbrev pub names_provider : {X : Type 0} → Result X HopFault → Bool
names_provider (Ok x) = false
names_provider (Err fault) = is_provider fault

-- 21 to 27, in the order of the faults' names; a verdict and out of memory have none
abbrev pub number_of : HopFault → Option ℕ
number_of (faults.Verdict verdict) = None
number_of faults.Target = Some 21
number_of faults.Loop = Some 22
number_of faults.Full = Some 23
number_of faults.Size = Some 24
number_of faults.Authority = Some 25
number_of (faults.NoSignature digest) = Some 26
number_of faults.Provider = Some 27
number_of faults.Memory = None

-- what a fault of the signer is here
abbrev pub hop_fault : SignFault → HopFault
hop_fault signing.Form = faults.Size
hop_fault signing.NoNumber = faults.Target
hop_fault signing.Authority = faults.Authority
hop_fault (signing.NoSignature digest) = faults.NoSignature digest
hop_fault signing.Provider = faults.Provider
hop_fault signing.Memory = faults.Memory
