-- One question more.
use Rattle.std.proofs.Common.{refl, string_bytes}
use Rattle.single_calls.specs.Reading.{lines}
use Rattle.single_calls.proofs.AskSteps.{one_more}
use Rattle.single_calls.proofs.written.Written.add_all.Goals as goal

pub questions-preserved : goal.questions-preserved
questions-preserved c =
    one_more c.args.questions.now (lines c.args.self.now (string_bytes c.args.text.now)) (lines c.questions.self (string_bytes c.questions.text))
    (lines c.add.new.self (string_bytes c.add.new.text)) c.questions.question-index _ _ c.questions.invariant c.questions-test.true refl c.in_ok-add.ensures
