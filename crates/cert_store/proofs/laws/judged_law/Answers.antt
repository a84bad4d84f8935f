-- The laws of a chain whose every question is answered.
use Rattle.cert_store.proofs.JudgedWords.{is_short}
use Rattle.cert_store.proofs.TruthLaws.{answered, in_words}
use Rattle.cert_store.proofs.laws.judged_law.Goals as goal

pub returns-clause-answered : goal.returns-clause-answered
returns-clause-answered c = answered

pub returns-clause-words : goal.returns-clause-words
returns-clause-words c = in_words c.below_law.ensures

pub returns-clause-short : goal.returns-clause-short
returns-clause-short c = is_short
