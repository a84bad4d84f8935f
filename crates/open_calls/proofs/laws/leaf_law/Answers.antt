-- More bytes than a chain may have are none.
use Rattle.open_calls.proofs.KeyLaws.{long_none}
use Rattle.open_calls.proofs.laws.leaf_law.Goals as goal

pub returns-clause-long : goal.returns-clause-long
returns-clause-long c = long_none c.judged_law.ensures.short
