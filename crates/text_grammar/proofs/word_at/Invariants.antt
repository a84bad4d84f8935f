-- What is left of the word, read where the letters so far end.
use Rattle.std.proofs.Common.{◌≡◌, drop}
use Rattle.text_grammar.specs.Reading.{word_at}
use Rattle.text_grammar.proofs.word_at.Given as goal

abbrev pub invariant-loop-letter : goal.invariant-loop-letter
invariant-loop-letter l = word_at (drop l.letter-index l.word) l.left ≡ word_at l.word l.fn.text
