-- The clauses are laws of lists.
use Rattle.claim_constraints.proofs.WholeLaws.{constraints_tell, read_only, text_found}
use Rattle.claim_constraints.proofs.laws.constraints_law.Goals as goal

pub returns-clause-again : goal.returns-clause-again
returns-clause-again c = read_only

pub returns-clause-found : goal.returns-clause-found
returns-clause-found c = text_found

pub returns-clause-refused : goal.returns-clause-refused
returns-clause-refused c = constraints_tell
