-- INTEGERs.
use Rattle.der_reader.proofs.IntegerLaws.{scalar_found, unsigned_again, unsigned_found}
use Rattle.der_reader.proofs.laws.integer_law.Goals as goal

pub returns-clause-unsigned_again : goal.returns-clause-unsigned_again
returns-clause-unsigned_again c = unsigned_again

pub returns-clause-unsigned_found : goal.returns-clause-unsigned_found
returns-clause-unsigned_found c = unsigned_found

pub returns-clause-scalar_found : goal.returns-clause-scalar_found
returns-clause-scalar_found c = scalar_found
