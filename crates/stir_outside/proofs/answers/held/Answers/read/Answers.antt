-- Laws of the rows of a text.
use Rattle.stir_outside.proofs.AnswerLaws.{answers_are, first_bad_is}
use Rattle.stir_outside.proofs.RowLineLaws.{row_is}
use Rattle.stir_outside.proofs.answers.held.Answers.read.Goals as goal

pub returns-clause-rows : goal.returns-clause-rows
returns-clause-rows c = answers_are c.args.text.now

pub returns-clause-first_bad : goal.returns-clause-first_bad
returns-clause-first_bad c = first_bad_is c.args.text.now

pub returns-clause-line : goal.returns-clause-line
returns-clause-line c = row_is c.words_law.ensures
