-- BOOLEANs.
use Rattle.der_reader.proofs.ElementLaws.{boolean_again, boolean_found}
use Rattle.der_reader.proofs.laws.boolean_law.Goals as goal

pub returns-clause-again : goal.returns-clause-again
returns-clause-again c = boolean_again

pub returns-clause-found : goal.returns-clause-found
returns-clause-found c = boolean_found
