-- Rule by rule, over what the call is.
use Rattle.auth_service.proofs.RuleLaws.{signed_asking, signed_first, signed_holds, signed_judged}
use Rattle.auth_service.proofs.laws.signed_rules_law.Goals as goal

pub returns-clause-early : goal.returns-clause-early
returns-clause-early c = signed_holds c.head_law.ensures c.added_laws.ensures

pub returns-clause-first : goal.returns-clause-first
returns-clause-first c = signed_first c.head_law.ensures c.added_laws.ensures

pub returns-clause-judged : goal.returns-clause-judged
returns-clause-judged c = signed_judged c.head_law.ensures c.added_laws.ensures

pub returns-clause-asking : goal.returns-clause-asking
returns-clause-asking c = signed_asking c.head_law.ensures c.added_laws.ensures
