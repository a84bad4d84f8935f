-- The rows so far, and how many lines are left.
use Rattle.std.proofs.Common.{length}
use Rattle.stir_outside.specs.Held.{Reached}
use Rattle.stir_outside.proofs.answers.held.Answers.read_lines.Given as goal

abbrev pub invariant-loop-line : goal.invariant-loop-line
invariant-loop-line l = Reached l.text l.lines l.answers

abbrev pub decreases-loop-line : goal.decreases-loop-line
decreases-loop-line l = length l.lines
