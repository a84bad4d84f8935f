use Rattle.drill.proofs.CountLaws.{all_both, calls_are, summary_is}
use Rattle.drill.proofs.count_laws.count_law.Goals as goal

pub returns-clause-both : goal.returns-clause-both
returns-clause-both c = all_both

pub returns-clause-calls : goal.returns-clause-calls
returns-clause-calls c = calls_are

pub returns-clause-summary : goal.returns-clause-summary
returns-clause-summary c = summary_is
