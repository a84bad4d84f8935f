-- Why bytes are no constraints, by kind and place: this project's own rule. A place counts from the constraints' first
-- byte.
use Rattle.std.specs.Prelude.{Option, Some, None, Result}
use Rattle.lists.specs.Given as given
use Rattle.der_reader.specs.Part.{at_kind}
use Rattle.der_reader.specs.declared.part.Fault.{Fault}
use Rattle.claim_constraints.specs.declared.fault.ConstraintFault.{ConstraintFault}
use Rattle.claim_constraints.specs.declared.fault.ConstraintFault.TheVariants.{At, Memory}

-- a fault other than `Memory`
abbrev pub fault_seen : ConstraintFault → Option Fault
fault_seen (At kind place) = Some (at_kind kind place)
fault_seen Memory = None

-- the result, as it is seen, is what was read, or its fault, unless memory runs out
abbrev pub Gives : {X Y : Type 0} → (X → Y) → Result X ConstraintFault → Result Y Fault → Type 0
Gives seen result read = given.Gives fault_seen seen result read
