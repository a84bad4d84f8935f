-- The rows so far, and how many lines are left.
use Rattle.std.proofs.Common.{length}
use Rattle.stir_outside.specs.Held.{Reached}
use Rattle.stir_outside.proofs.answers.held.Answers.read_stretches.Given as goal

abbrev pub invariant-stretches : goal.invariant-stretches
invariant-stretches g l = Reached l.text l.lines l.answers

abbrev pub decreases-stretches : goal.decreases-stretches
decreases-stretches g l = length l.lines
