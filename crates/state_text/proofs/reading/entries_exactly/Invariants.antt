use Rattle.std.proofs.Common.{◌≡◌, [], length}
use Rattle.state_text.specs.Reading.{entries_in}
use Rattle.state_text.proofs.reading.entries_exactly.Given as goal

abbrev pub invariant-lines : goal.invariant-lines
invariant-lines l = (l.number ≡ l.lines.number) × (entries_in l.call l.lines.number l.kept.items l.lines.lines ≡ entries_in l.call l.initial.lines.number [] l.initial.lines.lines)

abbrev pub decreases-lines : goal.decreases-lines
decreases-lines l = length l.lines.lines
