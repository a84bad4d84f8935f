-- Days that are settled one after another.
use Rattle.log_rounds.proofs.DaysLaws.{days_are_legal, days_are_one}
use Rattle.log_rounds.proofs.KeptLaws.{days_hand_on}
use Rattle.log_rounds.proofs.laws.days_law.Goals as goal

pub returns-clause-one : goal.returns-clause-one
returns-clause-one c = days_are_one c.day_after_day.ensures c.signed_law.ensures c.first_law.ensures.append

pub returns-clause-legal : goal.returns-clause-legal
returns-clause-legal c = days_are_legal c.first_is_legal.ensures c.day_after_day.ensures c.signed_law.ensures c.first_law.ensures.append

pub returns-clause-handed : goal.returns-clause-handed
returns-clause-handed c = days_hand_on c.signed_law.ensures c.first_law.ensures.append
