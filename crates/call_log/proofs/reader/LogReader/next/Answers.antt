-- The laws of the log.
use Rattle.call_log.proofs.LogLaws.{no_longer, one_log}
use Rattle.call_log.proofs.reader.LogReader.next.Goals as goal

pub returns-clause-one_log : goal.returns-clause-one_log
returns-clause-one_log g c = one_log

pub returns-clause-no_longer : goal.returns-clause-no_longer
returns-clause-no_longer g c = no_longer
