-- The test of coverage decides it.
use Rattle.delegation.proofs.DecidedLaws.{coverage_decided}
use Rattle.delegation.proofs.laws.covers_law.Goals as goal

pub returns : goal.returns
returns c = coverage_decided
