-- One chain more is held or kept.
use Rattle.verify_service.proofs.RightLaws.{stored_right}
use Rattle.verify_service.proofs.ThereLaws.{stored_here, stored_others, there_of}
use Rattle.verify_service.proofs.laws.stored_law.Goals as goal

pub returns-clause-right : goal.returns-clause-right
returns-clause-right c = stored_right c.cache_law.ensures.found

pub returns-clause-here : goal.returns-clause-here
returns-clause-here c = stored_here c.use_law.ensures.put

pub returns-clause-others : goal.returns-clause-others
returns-clause-others c = stored_others c.use_law.ensures.put_others

pub returns-clause-there : goal.returns-clause-there
returns-clause-there c = there_of c.use_law.ensures.few
