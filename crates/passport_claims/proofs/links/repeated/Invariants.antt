-- What is left gives what all gives.
use Rattle.std.proofs.Common.{◌≡◌, ◌+◌, ◌-◌, length}
use Rattle.passport_claims.specs.OrderReading.{first_from, repeats}
use Rattle.passport_claims.proofs.links.repeated.Given as goal

abbrev pub invariant-loop-link : goal.invariant-loop-link
invariant-loop-link g l = first_from (repeats (g.L.Passports.list l.links)) l.link (length (g.L.Passports.list l.links) + 1 - l.link) ≡ first_from (repeats (g.L.Passports.list l.links)) 1 (length (g.L.Passports.list l.links))
