-- The laws of the first broken rule.
use Rattle.verify_rules.proofs.FirstLaws.{none_first}
use Rattle.verify_rules.proofs.WorldEvents.{first_append}
use Rattle.verify_rules.proofs.laws.first_law.Goals as goal

pub returns-clause-none : goal.returns-clause-none
returns-clause-none c = none_first

pub returns-clause-append : goal.returns-clause-append
returns-clause-append c = first_append
