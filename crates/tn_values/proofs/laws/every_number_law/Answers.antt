-- What a test says of every number.
use Rattle.tn_values.proofs.EveryLaws.{all_tested, tested_all}
use Rattle.tn_values.proofs.laws.every_number_law.Goals as goal

pub returns-clause-each : goal.returns-clause-each
returns-clause-each c = all_tested

pub returns-clause-every : goal.returns-clause-every
returns-clause-every c = tested_all
