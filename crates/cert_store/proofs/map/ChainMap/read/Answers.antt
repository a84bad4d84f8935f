-- Laws of the rows of a text.
use Rattle.cert_store.proofs.MapLaws.{map_is, first_bad_is}
use Rattle.cert_store.proofs.map.ChainMap.read.Goals as goal

pub returns-clause-rows : goal.returns-clause-rows
returns-clause-rows c = map_is c.args.text.now

pub returns-clause-first_bad : goal.returns-clause-first_bad
returns-clause-first_bad c = first_bad_is c.args.text.now
