-- What the test of a set says.
use Rattle.tn_values.proofs.SetLaws.{has_means, means_has}
use Rattle.tn_values.proofs.laws.set_law.Goals as goal

pub returns-clause-means : goal.returns-clause-means
returns-clause-means c = has_means

pub returns-clause-decides : goal.returns-clause-decides
returns-clause-decides c = means_has
