use Rattle.replay_law.proofs.DayLaws.{day_after_day}
use Rattle.replay_law.proofs.day_after_day.Goals as goal

pub returns : goal.returns
returns c = day_after_day
