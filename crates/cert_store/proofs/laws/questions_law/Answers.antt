-- The laws of a chain's questions.
use Rattle.cert_store.proofs.JudgedWords.{answered_apart}
use Rattle.cert_store.proofs.QuestionLaws.{kept_none, same_questions, same_where_agreed}
use Rattle.cert_store.proofs.laws.questions_law.Goals as goal

pub returns-clause-same : goal.returns-clause-same
returns-clause-same c = same_questions

pub returns-clause-agree : goal.returns-clause-agree
returns-clause-agree c = same_where_agreed

pub returns-clause-apart : goal.returns-clause-apart
returns-clause-apart c = answered_apart

pub returns-clause-none : goal.returns-clause-none
returns-clause-none c = kept_none
