-- The lines that are left give the number that all give.
use Rattle.std.proofs.Common.{◌≡◌, ◌+◌, ◌≤◌, length}
use Rattle.state_text.specs.Lines.{ended_lines}
use Rattle.stir_files.specs.StateFile.{after_head}
use Rattle.stir_files.proofs.state.window_line.Given as goal

abbrev pub invariant-lines : goal.invariant-lines
invariant-lines l = record { head : after_head l.number (ended_lines l.left) ≡ after_head 1 (ended_lines l.content); within : l.number + length l.left ≤ length l.content + 1 }

abbrev pub decreases-lines : goal.decreases-lines
decreases-lines l = length l.left
