-- The laws of a call of a log.
use Rattle.verify_service.proofs.CallLaws.{moment_in, same_call, screened_call}
use Rattle.verify_service.proofs.laws.call_law.Goals as goal

pub returns-clause-same : goal.returns-clause-same
returns-clause-same c = same_call

pub returns-clause-screened : goal.returns-clause-screened
returns-clause-screened c = screened_call

pub returns-clause-same_moment : goal.returns-clause-same_moment
returns-clause-same_moment c = moment_in
