-- The lines so far and those of the entries left are the lines of all.
use Rattle.std.proofs.Common.{◌≡◌, ◌++◌, drop}
use Rattle.std.specs.List.{flat_map}
use Rattle.chain_lines.specs.Parts.{code_line, code_lines}
use Rattle.chain_lines.proofs.parts.code_lines.Given as goal

abbrev pub invariant-lines : goal.invariant-lines
invariant-lines l = l.lines.items ++ flat_map code_line (drop l.entry-index l.entries) ≡ code_lines l.entries
