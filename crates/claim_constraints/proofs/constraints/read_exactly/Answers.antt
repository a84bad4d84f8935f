-- What is read is constraints.
use Rattle.claim_constraints.proofs.WholeLaws.{read_is}
use Rattle.claim_constraints.proofs.constraints.read_exactly.Goals as goal

pub invariant_of-result : goal.invariant_of-result
invariant_of-result c = read_is c.args.bytes.now _ c.in_ok-must.ensures.bytes c.in_ok-must.ensures.exact
