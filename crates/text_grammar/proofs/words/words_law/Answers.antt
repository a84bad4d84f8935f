-- The law on lists.
use Rattle.text_grammar.proofs.LineOfLaws.{words_are}
use Rattle.text_grammar.proofs.words.words_law.Goals as goal

pub returns : goal.returns
returns c = words_are
