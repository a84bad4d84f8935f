-- The shape is that of a path, or the first fault.
use Rattle.delegation.proofs.FaultLaws.{fault_again, fault_found}
use Rattle.delegation.proofs.PathLaws.{path_again, path_found}
use Rattle.delegation.proofs.laws.path_law.Goals as goal

pub returns-clause-again : goal.returns-clause-again
returns-clause-again c = path_again

pub returns-clause-found : goal.returns-clause-found
returns-clause-found c = path_found

pub returns-clause-refused_again : goal.returns-clause-refused_again
returns-clause-refused_again c = fault_again

pub returns-clause-refused : goal.returns-clause-refused
returns-clause-refused c = fault_found
