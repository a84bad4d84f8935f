-- What is left gives what all gives.
use Rattle.std.proofs.Common.{◌≡◌, ◌+◌, ◌-◌}
use Rattle.passport_claims.specs.OrderReading.{first_from, is_left}
use Rattle.passport_claims.specs.OrderSeen.{turn_of}
use Rattle.passport_claims.proofs.diversion.left.Given as goal

abbrev pub invariant-loop-link : goal.invariant-loop-link
invariant-loop-link l = first_from (is_left (turn_of l.order)) l.link (l.count + 1 - l.link) ≡ first_from (is_left (turn_of l.order)) 1 l.count
