-- The laws of two providers.
use Rattle.single_calls.proofs.AgreeLaws.{asked_same, judged_alike_where}
use Rattle.single_calls.proofs.laws.agreement_law.Goals as goal

pub returns-clause-same : goal.returns-clause-same
returns-clause-same c = asked_same c.call_agreement_law.ensures.same

pub returns-clause-alike : goal.returns-clause-alike
returns-clause-alike c = judged_alike_where c.call_agreement_law.ensures.same c.call_agreement_law.ensures.alike
