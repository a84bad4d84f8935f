-- The lines of the questions so far and of those that are left are the lines of all.
use Rattle.std.proofs.Common.{◌≡◌, ◌++◌, drop, map}
use Rattle.cert_store.specs.Questions.{seen}
use Rattle.call_judging.specs.AskLines.{ask_lines}
use Rattle.open_calls.proofs.lines.add_all.Given as goal

abbrev pub invariant-questions : goal.invariant-questions
invariant-questions l = l.text.items ++ ask_lines (map seen (drop l.question-index l.questions)) ≡ l.fn.text.items ++ ask_lines (map seen l.questions)
