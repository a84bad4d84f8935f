-- The public clauses are laws of `time_of`.
use Rattle.std.proofs.Common.{rules}
use Rattle.der_reader.specs.Time.{time_of}
use Rattle.der_reader.proofs.MomentLaws.{seconds_fault}
use Rattle.der_reader.proofs.TimeLaws.{time_answer_found, time_answer_again}
use Rattle.der_reader.proofs.element.Der.time.Goals as goal

pub returns-in_err-moment_in-clause-only : goal.returns-in_err-moment_in-clause-only
unfolding time_of
returns-in_err-moment_in-clause-only c = time_answer_again c.args.self.now.tag c.args.self.now.content.now c.from_residual.result (search rules)

pub returns-clause-found : goal.returns-clause-found
unfolding time_of
returns-clause-found c = time_answer_found c.args.self.now.tag c.args.self.now.content.now c.unix_seconds.result (search rules)

pub returns-clause-only : goal.returns-clause-only
unfolding time_of
returns-clause-only c = time_answer_again c.args.self.now.tag c.args.self.now.content.now c.unix_seconds.result (search rules)

pub returns-clause-fault : goal.returns-clause-fault
returns-clause-fault c = seconds_fault c.in_ok-moment_in.field-0 c.unix_seconds.result c.unix_seconds.ensures
