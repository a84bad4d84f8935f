-- Why bytes aren't a certificate of the profile, by kind and place: this project's own rule.
use Rattle.std.specs.Prelude.{ℕ, ◌≤◌, Option, Some, None, Result, Ok, Err}
use Rattle.lists.specs.Given as given
use Rattle.der_reader.specs.Part.{at_kind}
use Rattle.der_reader.specs.declared.part.Fault.{Fault}
use Rattle.x509_profile.specs.declared.fault.CertFault.{CertFault}
use Rattle.x509_profile.specs.declared.fault.CertFault.TheVariants.{At, Memory}

-- a fault of this kind at this offset
abbrev pub fault_at : ℕ → ℕ → Fault
fault_at kind place = at_kind kind place

-- a fault other than `Memory`
abbrev pub fault_seen : CertFault → Option Fault
fault_seen (At kind place) = Some (fault_at kind place)
fault_seen Memory = None

-- The code gives what is read, or its fault, unless memory runs out.
abbrev pub Gives : {X Y : Type 0} → (X → Y) → Result X CertFault → Result Y Fault → Type 0
Gives seen result read = given.Gives fault_seen seen result read

-- a fault's place is no further than this
abbrev pub IsPlacedUpTo : {X : Type 0} → ℕ → Result X CertFault → Type 0
IsPlacedUpTo end (Ok x) = Unit {0}
IsPlacedUpTo end (Err (At kind place)) = place ≤ end
IsPlacedUpTo end (Err Memory) = Unit {0}
