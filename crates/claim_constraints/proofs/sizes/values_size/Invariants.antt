-- The size of what was passed over, and of what is left, is the size of all.
use Rattle.std.proofs.Common.{◌≡◌, ◌+◌, ℕ, length, drop}
use Rattle.claim_constraints.specs.ConstraintsText.{values_text}
use Rattle.claim_constraints.specs.Size.{capped}
use Rattle.claim_constraints.proofs.sizes.values_size.Given as goal

abbrev pub invariant-values : goal.invariant-values
invariant-values l = (passed : ℕ) × (l.size ≡ capped passed) × (passed + length (values_text (drop l.index l.permit.values)) ≡ length (values_text l.permit.values))
