-- How far loops have come.
use Rattle.std.specs.Prelude.{◌≡◌, ℕ, List, ◌++◌, drop}
use Rattle.call_judging.specs.AskLines.{ask_lines}
use Rattle.call_judging.specs.CallQuestions.{chains_questions}
use Rattle.verify_rules.specs.Call.{Reading}
use Rattle.verify_rules.specs.States.{State}
use Rattle.open_calls.specs.Claims.{claims_lines}

-- with the lines of the chains that are left they are those of all
pub record ChainsUpTo (states : List State) (before now : List ℕ) (i : ℕ) : Type 0 where
  pub left : now ++ ask_lines (chains_questions (drop i states)) ≡ before ++ ask_lines (chains_questions states)

-- the same of what PASSporTs say
pub record ClaimsUpTo (readings : List Reading) (now : List ℕ) (i : ℕ) : Type 0 where
  pub left : now ++ claims_lines (drop i readings) ≡ claims_lines readings
