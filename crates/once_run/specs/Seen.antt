-- How clauses see the fault of a text of tickets.
use Rattle.std.specs.Prelude.{ℕ, Option, Some, None}
use Rattle.once_run.specs.declared.fault.TicketsFault.{TicketsFault}
use Rattle.once_run.specs.declared.fault.TicketsFault.TheVariants.{Line, Memory}

-- the line that a fault names; out of memory names none
abbrev pub fault_line : TicketsFault → Option ℕ
fault_line (Line line) = Some line
fault_line Memory = None

-- what holds of the line that the fault names, if it names one
abbrev pub IfLine : TicketsFault → (ℕ → Type 0) → Type 0
IfLine (Line line) P = P line
IfLine Memory P = Unit {0}
