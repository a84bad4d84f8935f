-- How clauses see the fault of a state file.
use Rattle.std.specs.Prelude.{ℕ, Option, Some, None}
use Rattle.state_text.specs.declared.fault.StateFault.{StateFault}
use Rattle.state_text.specs.declared.fault.StateFault.TheVariants.{Line, Memory}

-- the line that a fault names; `Memory` names none
abbrev pub fault_line : StateFault → Option ℕ
fault_line (Line line) = Some line
fault_line Memory = None

-- what holds of the line that the fault names, if it names one
abbrev pub IfLine : StateFault → (ℕ → Type 0) → Type 0
IfLine (Line line) P = P line
IfLine Memory P = Unit {0}
