-- What was made so far, and what is made of the elements left, is what is made of all.
use Rattle.std.proofs.Common.{length}
use Rattle.chain_lines.specs.Elements.{within}
use Rattle.chain_lines.specs.Revocation.{made_by}
use Rattle.chain_lines.proofs.ElementLaws.{Left}
use Rattle.chain_lines.proofs.made.within.Given as goal

abbrev pub invariant-elements : goal.invariant-elements
invariant-elements l = Left l.tag (made_by l.make) (within l.tag (made_by l.make) l.bytes) l.out.items l.left

abbrev pub decreases-elements : goal.decreases-elements
decreases-elements l = length l.left
