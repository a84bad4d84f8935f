-- The numbers of the rules.
use Rattle.call_judging.proofs.ExplainLaws.{on_files, on_signatures, rules_are}
use Rattle.call_judging.proofs.laws.rule_numbers_law.Goals as goal

pub returns-clause-all : goal.returns-clause-all
returns-clause-all c = rules_are

pub returns-clause-on_files : goal.returns-clause-on_files
returns-clause-on_files c = on_files

pub returns-clause-on_signatures : goal.returns-clause-on_signatures
returns-clause-on_signatures c = on_signatures
