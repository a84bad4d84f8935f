-- What is left gives what all gives.
use Rattle.std.proofs.Common.{◌≡◌, drop}
use Rattle.delegation.specs.Path.{first_from, fits}
use Rattle.delegation.proofs.path.first_fitting.Given as goal

abbrev pub invariant-loop-anchor : goal.invariant-loop-anchor
invariant-loop-anchor l = (l.i ≡ l.anchor-index)
    × (first_from (fits l.count l.last) l.i (drop l.anchor-index l.anchors) ≡ first_from (fits l.count l.last) 0 l.anchors)
