-- What is told of what the PASSporTs of a call say.
use Rattle.verify_rules.specs.Call.{payload_of}
use Rattle.stir_c.proofs.OneLineLaws.{one_line}
use Rattle.stir_c.proofs.exports_judging.stir_call_claims.Goals as goal

pub returns-clause-one_line : goal.returns-clause-one_line
returns-clause-one_line c = λ one. one_line (payload_of one)

pub returns-in-None-clause-one_line : goal.returns-in-None-clause-one_line
returns-in-None-clause-one_line c = λ one. one_line (payload_of one)
