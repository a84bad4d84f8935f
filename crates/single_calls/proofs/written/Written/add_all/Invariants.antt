-- The lines of the questions so far were written.
use Rattle.std.proofs.Common.{string_bytes}
use Rattle.single_calls.specs.Reading.{lines}
use Rattle.single_calls.specs.Steps.{AskedUpTo}
use Rattle.single_calls.proofs.written.Written.add_all.Given as goal

abbrev pub invariant-questions : goal.invariant-questions
invariant-questions l = AskedUpTo l.questions (lines l.fn.self (string_bytes l.fn.text)) (lines l.self (string_bytes l.text)) l.question-index
