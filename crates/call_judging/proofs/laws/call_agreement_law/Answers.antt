-- The laws of two providers.
use Rattle.call_judging.proofs.AgreeLaws.{call_same, judged_alike}
use Rattle.call_judging.proofs.laws.call_agreement_law.Goals as goal

pub returns-clause-same : goal.returns-clause-same
returns-clause-same c = call_same c.provider_law.ensures.certificates

pub returns-clause-alike : goal.returns-clause-alike
returns-clause-alike c = judged_alike c.questions_law.ensures.agree c.provider_law.ensures.certificates c.provider_law.ensures.signatures
