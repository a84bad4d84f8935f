-- One question more, and all of them.
use Rattle.std.proofs.Common.{refl}
use Rattle.stir_c.proofs.QuestionLaws.{all_added, one_more}
use Rattle.stir_c.proofs.question_bytes.questions_bytes.Goals as goal

pub questions-preserved : goal.questions-preserved
questions-preserved c =
    one_more c.args.questions.now c.questions.question-index _ _ c.questions.bytes.items c.add_question.new.bytes.items _ c.questions.invariant c.questions-test.true refl
    c.in_ok-add_question.ensures

pub returns : goal.returns
returns c = all_added c.args.questions.now c.questions.question-index c.questions.bytes.items _ c.questions.invariant c.questions-test.false
