-- How long a chain is held.
use Rattle.cert_store.proofs.OnceLaws.{no_more}
use Rattle.cert_store.proofs.UsingLaws.{few_held, held_since, named_held, put_here, put_unless, touched_here, touched_unless, unless_more}
use Rattle.cert_store.proofs.laws.use_law.Goals as goal

pub returns-clause-touched : goal.returns-clause-touched
returns-clause-touched c = touched_here

pub returns-clause-put : goal.returns-clause-put
returns-clause-put c = put_here

pub returns-clause-touched_others : goal.returns-clause-touched_others
returns-clause-touched_others c = touched_unless

pub returns-clause-put_others : goal.returns-clause-put_others
returns-clause-put_others c = put_unless

pub returns-clause-more : goal.returns-clause-more
returns-clause-more c = unless_more

pub returns-clause-few : goal.returns-clause-few
returns-clause-few c = few_held

pub returns-clause-named : goal.returns-clause-named
returns-clause-named c = named_held

pub returns-clause-since : goal.returns-clause-since
returns-clause-since c = held_since

pub returns-clause-no_more : goal.returns-clause-no_more
returns-clause-no_more c = no_more
