-- Times.
use Rattle.der_reader.proofs.TimeLaws.{time_again, time_found}
use Rattle.der_reader.proofs.laws.time_law.Goals as goal

pub returns-clause-again : goal.returns-clause-again
returns-clause-again c = time_again

pub returns-clause-found : goal.returns-clause-found
returns-clause-found c = time_found
