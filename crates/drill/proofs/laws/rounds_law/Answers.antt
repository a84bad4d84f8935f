use Rattle.drill.proofs.AlikeLaws.{one_summary}
use Rattle.drill.proofs.laws.rounds_law.Goals as goal

pub returns : goal.returns
returns c = one_summary c.summary_law.ensures c.same_world_law.ensures
