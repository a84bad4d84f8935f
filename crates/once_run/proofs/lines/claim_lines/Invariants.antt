-- The lines so far and those of the claims that are left are those of all claims.
use Rattle.std.proofs.Common.{◌≡◌, ◌++◌, ◌+◌, drop}
use Rattle.once_run.specs.Lines.{claim_lines, lines_from}
use Rattle.once_run.proofs.lines.claim_lines.Given as goal

abbrev pub invariant-lines : goal.invariant-lines
invariant-lines l = l.text.items ++ lines_from (l.index + 1) (drop l.index l.claims) ≡ claim_lines l.claims
