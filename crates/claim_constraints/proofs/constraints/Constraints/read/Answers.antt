-- The public clauses are laws of `read_constraints`, which the body gives.
use Rattle.claim_constraints.proofs.WholeLaws.{one_text}
use Rattle.claim_constraints.proofs.constraints.Constraints.read.Goals as goal

pub returns-clause-unique : goal.returns-clause-unique
returns-clause-unique c = one_text c.args.bytes.now
