-- What is left gives what all gives.
use Rattle.std.proofs.Common.{◌≡◌, ◌-◌}
use Rattle.passport_claims.specs.OrderReading.{first_from, is_twin}
use Rattle.passport_claims.proofs.links.twin.Given as goal

abbrev pub invariant-loop-other : goal.invariant-loop-other
invariant-loop-other g l = first_from (is_twin (g.L.Passports.list l.links) l.link) l.other (l.link - l.other) ≡ first_from (is_twin (g.L.Passports.list l.links) l.link) 1 (l.link - 1)
