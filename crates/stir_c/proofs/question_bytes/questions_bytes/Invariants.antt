-- The bytes of the questions so far and of those that are left are the bytes of all.
use Rattle.std.proofs.Common.{◌≡◌, ◌++◌, drop, map}
use Rattle.cert_store.specs.Questions.{seen}
use Rattle.stir_c.specs.QuestionBytes.{questions_bytes}
use Rattle.stir_c.proofs.question_bytes.questions_bytes.Given as goal

abbrev pub invariant-questions : goal.invariant-questions
invariant-questions l = l.bytes.items ++ questions_bytes (map seen (drop l.question-index l.questions)) ≡ questions_bytes (map seen l.questions)
