-- The lines still to come stay the same until one is given.
use Rattle.std.proofs.Common.{◌≡◌, ◌+◌, ◌^◌, ◌<◌, length}
use Rattle.text_grammar.specs.FileLines.{numbered_from}
use Rattle.text_grammar.proofs.lines.Lines.next.Given as goal

abbrev pub invariant-loop-text : goal.invariant-loop-text
invariant-loop-text l = (numbered_from l.self-inside.number l.self-inside.left.now ≡ l.fn.self) × (l.self-inside.number + length l.self-inside.left.now < 2 ^ 32)

abbrev pub decreases-loop-text : goal.decreases-loop-text
decreases-loop-text l = length l.self-inside.left.now
