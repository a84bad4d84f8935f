-- The laws of which questions are asked for a call.
use Rattle.call_judging.proofs.AskedForLaws.{asked_for_where}
use Rattle.call_judging.proofs.CallLaws.{over_chains, over_verdict, refused_asks}
use Rattle.call_judging.proofs.laws.call_questions_law.Goals as goal

pub returns-clause-asked : goal.returns-clause-asked
returns-clause-asked c = asked_for_where

pub returns-clause-refused : goal.returns-clause-refused
returns-clause-refused c = refused_asks

pub returns-clause-chains : goal.returns-clause-chains
returns-clause-chains c = over_chains

pub returns-clause-whole : goal.returns-clause-whole
returns-clause-whole c = over_verdict
