-- The laws of which questions are asked.
use Rattle.single_calls.proofs.AskedLaws.{asked_once, asked_where}
use Rattle.single_calls.proofs.laws.asked_law.Goals as goal

pub returns-clause-listed : goal.returns-clause-listed
returns-clause-listed c = asked_where c.call_questions_law.ensures.asked

pub returns-clause-once : goal.returns-clause-once
returns-clause-once c = asked_once
