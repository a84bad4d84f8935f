-- What the words order is what they say row by row.
use Rattle.stir_words.proofs.RowLaws.{rows_are}
use Rattle.stir_words.proofs.order.Order.of.Goals as goal

pub returns-clause-rows : goal.returns-clause-rows
returns-clause-rows c = rows_are
