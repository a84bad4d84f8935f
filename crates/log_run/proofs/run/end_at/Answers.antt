-- Each fault of the log's grammar is refused at its place.
use Rattle.log_run.proofs.run.end_at.Goals as goal

pub returns-in-Grammar : goal.returns-in-Grammar
returns-in-Grammar g c = rw c.in-Grammar.is c.refuse.ensures

pub returns-in-Backward : goal.returns-in-Backward
returns-in-Backward g c = rw c.in-Backward.is c.refuse-in-Backward.ensures

pub returns-in-Many : goal.returns-in-Many
returns-in-Many g c = rw c.in-Many.is c.refuse-in-Many.ensures
