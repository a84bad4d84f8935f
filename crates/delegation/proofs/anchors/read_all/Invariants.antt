-- What was found and what is left give what all gives.
use Rattle.std.proofs.Common.{length}
use Rattle.delegation.proofs.ReadLaws.{Stands}
use Rattle.delegation.proofs.anchors.read_all.Given as goal

abbrev pub invariant-anchors : goal.invariant-anchors
invariant-anchors l = Stands l.anchors.items l.bytes l.rest

abbrev pub decreases-anchors : goal.decreases-anchors
decreases-anchors l = length l.rest
