-- The walk goes on after the anchor that was found.
use Rattle.std.proofs.Common.{rules}
use Rattle.delegation.proofs.ReadLaws.{goes_on}
use Rattle.delegation.proofs.anchors.read_all.Goals as goal

pub anchors-preserved : goal.anchors-preserved
anchors-preserved c =
    goes_on c.anchors.anchors.items c.push.new.self.items c.args.bytes.now c.anchors.rest.now (c.in_ok-anchor.anchor, c.in_ok-anchor.behind.now)
    c.anchors.invariant c.in_ok-push.ensures.items (search rules) (search rules) (search rules) c.in_ok-anchor.ensures.shorter c.in_ok-anchor.ensures.size
