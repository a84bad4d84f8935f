-- How long a call is fresh, by what was signed as its last PASSporT.
use Rattle.verify_rules.proofs.LastLaws.{last_second}
use Rattle.verify_rules.proofs.laws.last_second_law.Goals as goal

pub returns : goal.returns
returns c = λ call none. last_second call (c.signed_law.ensures call none)
