-- The laws of lists.
use Rattle.tn_auth_list.proofs.ListLaws.{list_again, list_found, list_tells}
use Rattle.tn_auth_list.proofs.laws.list_law.Goals as goal

pub returns-clause-again : goal.returns-clause-again
returns-clause-again c = list_again

pub returns-clause-found : goal.returns-clause-found
returns-clause-found c = list_found

pub returns-clause-refused : goal.returns-clause-refused
returns-clause-refused c = λ bytes fault b. list_tells bytes b fault
