-- The verdict of a rule after the signatures.
use Rattle.verify_rules.proofs.VerdictLaws.{by_after}
use Rattle.verify_rules.proofs.verdict.finish_exactly.Goals as goal

pub returns-in-Some-first_rule-clause-verdict : goal.returns-in-Some-first_rule-clause-verdict
returns-in-Some-first_rule-clause-verdict g c =
    by_after _ _ _ _ _ _ _ c.in-Some-first_rule.event c.first_rule.result c.in-Ok.asked c.first_rule-2.result _ c.first_rule.ensures c.in_default.is c.in-Ok.ensures.answer c.in_default-asked.is
    c.first_rule-2.ensures c.in-Some-first_rule.is c.verdict_of-in-Some-first_rule.ensures
