-- The laws of what is explained.
use Rattle.call_judging.proofs.ExplainLaws.{explains_broken, explains_met, explains_unasked, explains_unread}
use Rattle.call_judging.proofs.laws.explain_law.Goals as goal

pub returns-clause-met : goal.returns-clause-met
returns-clause-met c = explains_met

pub returns-clause-broken : goal.returns-clause-broken
returns-clause-broken c = explains_broken

pub returns-clause-unread : goal.returns-clause-unread
returns-clause-unread c = explains_unread

pub returns-clause-unasked : goal.returns-clause-unasked
returns-clause-unasked c = explains_unasked
