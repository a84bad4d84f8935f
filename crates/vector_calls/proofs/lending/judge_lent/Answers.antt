-- The round is still the newest after seats were taken of it.
use Rattle.vector_calls.proofs.lending.judge_lent.Goals as goal

pub judge_by_two-requires-clause-newest : goal.judge_by_two-requires-clause-newest
judge_by_two-requires-clause-newest g c κs within = c.two_seats.ensures.newest _ c.in_ok-service.ensures.newest
