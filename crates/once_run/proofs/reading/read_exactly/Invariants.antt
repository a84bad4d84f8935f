-- The lines that are left lead on from the tickets read so far to what the whole text gives.
use Rattle.std.proofs.Common.{◌≡◌, length}
use Rattle.text_grammar.specs.ReadLines.{read_lines}
use Rattle.once_run.specs.Reading.{add_ticket, tickets_in}
use Rattle.once_run.proofs.reading.read_exactly.Given as goal

abbrev pub invariant-loop-line : goal.invariant-loop-line
invariant-loop-line l = read_lines add_ticket l.lines l.tickets.items ≡ tickets_in l.text

abbrev pub decreases-loop-line : goal.decreases-loop-line
decreases-loop-line l = length l.lines
