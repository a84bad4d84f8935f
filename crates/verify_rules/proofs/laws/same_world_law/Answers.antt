-- The law of two worlds.
use Rattle.verify_rules.proofs.SameWorldLaws.{first_same}
use Rattle.verify_rules.proofs.laws.same_world_law.Goals as goal

pub returns : goal.returns
returns c = first_same c.covers_law.ensures c.within_law.ensures.decides
