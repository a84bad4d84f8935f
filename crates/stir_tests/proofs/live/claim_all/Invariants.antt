-- The seat stays one of the desk.
use Rattle.std.proofs.Common.{◌≡◌}
use Rattle.stir_tests.proofs.live.claim_all.Given as goal

abbrev pub invariant-loop-claim : goal.invariant-loop-claim
invariant-loop-claim l = l.seat.desk ≡ l.desk
