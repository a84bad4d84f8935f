-- The size of what was passed over, and of what is left, is the size of all.
use Rattle.std.proofs.Common.{◌≡◌, ◌+◌, ℕ, length, drop}
use Rattle.der_reader.specs.Tags.{sequence_tag}
use Rattle.claim_constraints.specs.ConstraintsText.{elements, permit_content}
use Rattle.claim_constraints.specs.Size.{capped}
use Rattle.claim_constraints.proofs.sizes.entries_size.Given as goal

abbrev pub invariant-permits : goal.invariant-permits
invariant-permits l =
    (passed : ℕ) × (l.size ≡ capped passed)
    × (passed + length (elements sequence_tag permit_content (drop l.index l.permits)) ≡ length (elements sequence_tag permit_content l.permits))
