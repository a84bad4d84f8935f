-- A space after the third one makes a fifth part.
use Rattle.text_grammar.proofs.WordLaws.{more_parts}
use Rattle.text_grammar.proofs.words.words_of.Goals as goal

pub returns-in-Some-cut-3 : goal.returns-in-Some-cut-3
returns-in-Some-cut-3 c =
    let one = c.in-Some.ensures in
    let two = c.in-Some-cut.ensures in
    let three = c.in-Some-cut-2.ensures in
    let four = c.in-Some-cut-3.ensures in
    more_parts c.args.line.now c.in-Some.first.now c.in-Some.others.now c.in-Some-cut.second.now c.in-Some-cut.more.now c.in-Some-cut-2.third.now c.in-Some-cut-2.last.now
    c.in-Some-cut-3.field-0.0.now c.in-Some-cut-3.field-0.1.now one.split one.first two.split two.first three.split three.first four.split four.first
