use Rattle.drill.proofs.SummaryLaws.{one_summary}
use Rattle.drill.proofs.count_laws.summary_law.Goals as goal

pub returns : goal.returns
returns c = one_summary
