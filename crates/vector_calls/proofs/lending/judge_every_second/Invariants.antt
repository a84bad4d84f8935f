-- The seat stays one of the round's desk.
use Rattle.std.proofs.Common.{◌≡◌}
use Rattle.vector_calls.proofs.lending.judge_every_second.Given as goal

abbrev pub invariant-calls : goal.invariant-calls
invariant-calls l = l.seat.desk ≡ l.prepared.desk
