-- The size of what was passed over, and of what is left, is the size of all.
use Rattle.std.proofs.Common.{◌≡◌, ◌+◌, ℕ, length, drop}
use Rattle.claim_constraints.specs.ConstraintsText.{names_text}
use Rattle.claim_constraints.specs.Size.{capped}
use Rattle.claim_constraints.proofs.sizes.names_size.Given as goal

abbrev pub invariant-names : goal.invariant-names
invariant-names l = (passed : ℕ) × (l.size ≡ capped passed) × (passed + length (names_text (drop l.index l.names)) ≡ length (names_text l.names))
