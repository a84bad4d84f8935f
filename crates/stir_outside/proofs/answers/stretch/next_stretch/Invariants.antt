-- The lines taken so far, and how many are left.
use Rattle.std.proofs.Common.{◌≡◌, ◌≤◌, ◌++◌, length}
use Rattle.stir_outside.specs.Stretch.{lines_of}
use Rattle.stir_outside.proofs.answers.stretch.next_stretch.Given as goal

abbrev pub invariant-lines : goal.invariant-lines
invariant-lines l = record {
  taken : l.initial.lines ≡ lines_of l.stretch.items ++ l.lines;
  few : length l.stretch.items ≤ 8192;
}

abbrev pub decreases-lines : goal.decreases-lines
decreases-lines l = length l.lines
