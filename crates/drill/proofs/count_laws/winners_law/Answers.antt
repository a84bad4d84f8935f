use Rattle.drill.proofs.WinnerLaws.{one_count}
use Rattle.drill.proofs.count_laws.winners_law.Goals as goal

pub returns : goal.returns
returns c = one_count
