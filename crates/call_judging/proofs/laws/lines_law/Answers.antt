-- The lines that explain a call: their words, by the codes of the rules, and that they can be read back.
use Rattle.call_judging.proofs.ExplainBack.{broken_is, met_words, told_apart, unread_words}
use Rattle.call_judging.proofs.laws.lines_law.Goals as goal

pub returns-clause-met : goal.returns-clause-met
returns-clause-met c = met_words

pub returns-clause-broken : goal.returns-clause-broken
returns-clause-broken c = broken_is c.code_law.ensures

pub returns-clause-unread : goal.returns-clause-unread
returns-clause-unread c = unread_words

pub returns-clause-same_text : goal.returns-clause-same_text
returns-clause-same_text c = told_apart
