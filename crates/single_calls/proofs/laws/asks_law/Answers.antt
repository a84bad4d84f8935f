-- The laws of what is asked.
use Rattle.single_calls.proofs.LogLaws.{all_are_well, texts_are}
use Rattle.single_calls.proofs.laws.asks_law.Goals as goal

pub returns-clause-texts : goal.returns-clause-texts
returns-clause-texts c = texts_are

pub returns-clause-well : goal.returns-clause-well
returns-clause-well c = all_are_well
