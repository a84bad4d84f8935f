-- What is left gives what all gives.
use Rattle.std.proofs.Common.{◌≡◌, ◌+◌, ◌-◌, length}
use Rattle.passport_claims.specs.OrderReading.{first_from, leads_to}
use Rattle.passport_claims.proofs.links.link_to.Given as goal

abbrev pub invariant-loop-link : goal.invariant-loop-link
invariant-loop-link g l = first_from (leads_to (g.L.Passports.list l.links) l.number) l.link (length (g.L.Passports.list l.links) + 1 - l.link) ≡ first_from (leads_to (g.L.Passports.list l.links) l.number) 1 (length (g.L.Passports.list l.links))
