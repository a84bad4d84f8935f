-- The status of a whole report.
use Rattle.log_rounds.proofs.StatusLaws.{all_are, status_one, status_zero}
use Rattle.log_rounds.proofs.laws.status_law.Goals as goal

pub returns-clause-zero : goal.returns-clause-zero
returns-clause-zero c = status_zero

pub returns-clause-valid : goal.returns-clause-valid
returns-clause-valid c = all_are

pub returns-clause-one : goal.returns-clause-one
returns-clause-one c = status_one
