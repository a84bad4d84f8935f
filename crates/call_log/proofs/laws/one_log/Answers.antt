-- The law of the log.
use Rattle.call_log.proofs.LogLaws.{one_log}
use Rattle.call_log.proofs.laws.one_log.Goals as goal

pub returns : goal.returns
returns c = one_log
