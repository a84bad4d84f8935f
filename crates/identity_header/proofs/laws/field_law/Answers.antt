-- What is read is in the grammar, and what is in the grammar is read.
use Rattle.identity_header.proofs.FieldLaw.{read_again, read_found}
use Rattle.identity_header.proofs.laws.field_law.Goals as goal

pub returns : goal.returns
returns c = λ text f. (read_found text f, read_again text f)
