-- The lines so far and those of what is left are those of the text, and each line took a byte at least.
use Rattle.std.proofs.Common.{◌≡◌, ◌+◌, ◌≤◌, length}
use Rattle.text_grammar.specs.FileLines.{file_lines}
use Rattle.text_grammar.proofs.lines.line_count.Given as goal

abbrev pub invariant-loop-rest : goal.invariant-loop-rest
invariant-loop-rest l = (l.count + length (file_lines l.left) ≡ length (file_lines l.fn.text)) × (l.count + length l.left ≤ length l.fn.text)

abbrev pub decreases-loop-rest : goal.decreases-loop-rest
decreases-loop-rest l = length l.left
