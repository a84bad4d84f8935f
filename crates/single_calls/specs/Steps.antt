-- How far the loop over questions has come.
use Rattle.std.specs.Prelude.{ℕ, List, map, take}
use Rattle.cert_store.specs.Questions.{seen}
use Rattle.cert_store.specs.declared.judged.Question.{Question}
use Rattle.single_calls.specs.Reading.{Lines}
use Rattle.single_calls.specs.Written.{Writes}

-- the lines of the questions up to here were written
pub record AskedUpTo (questions : List Question) (before now : Lines) (i : ℕ) : Type 0 where
  pub writes : Writes before.held now.held before.text now.text (map seen (take i questions))
