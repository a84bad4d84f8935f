-- At most six certificates a chain.
use Rattle.verify_service.proofs.ContentLaws.{six_each}
use Rattle.verify_service.proofs.laws.six_law.Goals as goal

pub returns : goal.returns
returns c = six_each c.chain_size_law.ensures
