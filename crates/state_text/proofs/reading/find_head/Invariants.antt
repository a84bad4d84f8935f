use Rattle.std.proofs.Common.{◌≡◌, length}
use Rattle.state_text.specs.Reading.{behind_head}
use Rattle.state_text.proofs.reading.find_head.Given as goal

abbrev pub invariant-loop-line : goal.invariant-loop-line
invariant-loop-line l = behind_head l.lines.number l.lines.lines ≡ behind_head l.initial.lines.number l.initial.lines.lines

abbrev pub decreases-loop-line : goal.decreases-loop-line
decreases-loop-line l = length l.lines.lines
