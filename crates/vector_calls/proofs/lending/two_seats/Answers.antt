-- Half of a seat with so many parts is a seat.
use Rattle.std.proofs.Common.{arith}
use Rattle.vector_calls.proofs.lending.two_seats.Goals as goal

pub split-requires-clause-share : goal.split-requires-clause-share
split-requires-clause-share c = omega (arith, (c.in-Some.ensures.seat).least)
