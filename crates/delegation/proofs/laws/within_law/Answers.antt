-- The test of lying within decides it.
use Rattle.delegation.proofs.DecidedLaws.{decides}
use Rattle.delegation.proofs.laws.within_law.Goals as goal

pub returns : goal.returns
returns c = record { decides = decides }
