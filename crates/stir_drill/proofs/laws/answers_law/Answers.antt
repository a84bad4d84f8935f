use Rattle.stir_drill.proofs.AnswerLaws.{answers_read, answers_size}
use Rattle.stir_drill.proofs.laws.answers_law.Goals as goal

pub returns-clause-read : goal.returns-clause-read
returns-clause-read c = answers_read

pub returns-clause-size : goal.returns-clause-size
returns-clause-size c = answers_size
