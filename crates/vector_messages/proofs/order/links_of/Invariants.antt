-- What was read so far are links.
use Rattle.std.proofs.Common.{All}
use Rattle.passport_claims.specs.Links.{IsLink}
use Rattle.vector_messages.proofs.order.links_of.Given as goal

abbrev pub invariant-loop-word : goal.invariant-loop-word
invariant-loop-word l = All IsLink l.links.items
