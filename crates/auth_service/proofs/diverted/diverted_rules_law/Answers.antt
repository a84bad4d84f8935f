-- One field more, over what the laws of the message and of the links say of it.
use Rattle.auth_service.proofs.DivertedLaws.{diverted_holds, diverted_judged, diverted_turn}
use Rattle.auth_service.proofs.diverted.diverted_rules_law.Goals as goal

pub returns-clause-rules : goal.returns-clause-rules
returns-clause-rules c = diverted_holds c.head_law.ensures c.added_laws.ensures c.one_link_more_law.ensures.exact

pub returns-clause-judged : goal.returns-clause-judged
returns-clause-judged c = diverted_judged c.head_law.ensures c.added_laws.ensures

pub returns-clause-turn : goal.returns-clause-turn
returns-clause-turn c = diverted_turn c.head_law.ensures c.added_laws.ensures c.one_link_more_law.ensures.exact
