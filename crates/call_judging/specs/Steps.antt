-- How far the loops that list questions have come.
use Rattle.std.specs.Prelude.{◌≡◌, ℕ, List, ◌++◌, drop, map}
use Rattle.cert_store.specs.Judged.{JudgedView}
use Rattle.cert_store.specs.Questions.{questions_from, questions_of, seen}
use Rattle.cert_store.specs.declared.judged.Question.{Question}
use Rattle.verify_rules.specs.Call.{Reading}
use Rattle.verify_rules.specs.States.{State}
use Rattle.call_judging.specs.CallQuestions.{own_questions}

-- with the questions of the certificates that are left they are those of all
pub record ChainUpTo (judged : JudgedView) (asked : List Question) (i : ℕ) : Type 0 where
  pub left : map seen asked ++ questions_from (drop i judged.certificates) (drop i judged.keys) ≡ questions_of judged

-- the same of PASSporTs
pub record OwnUpTo (readings : List Reading) (states : List State) (asked : List Question) (i : ℕ) : Type 0 where
  pub left : map seen asked ++ own_questions (drop i readings) (drop i states) ≡ own_questions readings states
