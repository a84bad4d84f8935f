-- What is written, and what is left, is all.
use Rattle.std.proofs.Common.{◌≡◌, ◌++◌, drop}
use Rattle.claim_constraints.specs.ConstraintsText.{values_text}
use Rattle.claim_constraints.proofs.writing.values_text.Given as goal

abbrev pub invariant-values : goal.invariant-values
invariant-values l = l.out.items ++ values_text (drop l.index l.permit.values) ≡ values_text l.permit.values
