-- How long a call is known again.
use Rattle.call_judging.proofs.LastLaws.{known_until}
use Rattle.call_judging.proofs.laws.fresh_law.Goals as goal

pub returns : goal.returns
returns c = known_until c.last_second_law.ensures
