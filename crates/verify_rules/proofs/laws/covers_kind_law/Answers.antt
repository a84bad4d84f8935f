-- By the law of coverage, type by type.
use Rattle.verify_rules.proofs.LeafMeans.{kind_again, kind_by}
use Rattle.verify_rules.proofs.laws.covers_kind_law.Goals as goal

pub returns : goal.returns
returns c = λ table entries orig kind. (kind_by c.covers_law.ensures table entries orig kind, kind_again c.covers_law.ensures table entries orig kind)
