-- What is written, and what is left, is all.
use Rattle.std.proofs.Common.{◌≡◌, ◌++◌, drop}
use Rattle.claim_constraints.specs.ConstraintsText.{names_text}
use Rattle.claim_constraints.proofs.writing.names_text.Given as goal

abbrev pub invariant-names : goal.invariant-names
invariant-names l = l.out.items ++ names_text (drop l.index l.names) ≡ names_text l.names
