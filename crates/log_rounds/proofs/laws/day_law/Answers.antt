-- A log that is judged call by call and settled by its tickets.
use Rattle.log_rounds.proofs.DayLaws.{day_is_legal, day_is_report}
use Rattle.log_rounds.proofs.laws.day_law.Goals as goal

pub returns-clause-legal : goal.returns-clause-legal
returns-clause-legal c = day_is_legal c.first_is_legal.ensures

pub returns-clause-report : goal.returns-clause-report
returns-clause-report c = day_is_report c.legal_is_first.ensures c.one_by_first.ensures
