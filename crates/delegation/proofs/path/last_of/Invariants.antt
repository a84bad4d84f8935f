-- What is left gives what all gives.
use Rattle.std.proofs.Common.{◌≡◌, ◌+◌, drop}
use Rattle.delegation.specs.Path.{last_of}
use Rattle.delegation.proofs.path.last_of.Given as goal

abbrev pub invariant-loop-certificate : goal.invariant-loop-certificate
invariant-loop-certificate l = (l.place ≡ 2 + l.certificate-index)
    × (last_of l.place l.below (drop l.certificate-index l.above) ≡ last_of 2 l.leaf l.above)
