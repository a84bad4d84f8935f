-- What was made, a call at a time.
use Rattle.std.specs.Prelude.{◌≡◌, ℕ, ◌*◌, List, ◌++◌, length}
use Rattle.std.specs.List.{flat_map}
use Rattle.stir_drill.specs.Calls.{entry_of, log_of, message_after, message_at}
use Rattle.stir_drill.specs.Draw.{state}
use Rattle.stir_drill.specs.World.{answer_line, answers_of, triples_of}
use Rattle.stir_drill.specs.declared.calls.Calls.{Calls}
use Rattle.stir_drill.specs.declared.drawn.Drawn.{Drawn}

-- so many calls of the seed were made
pub record Holds (seed count : ℕ) (calls : Calls) : Type 0 where
  pub state_is : calls.state ≡ state seed (2 * count)
  pub log_is : calls.log.items ≡ log_of seed count
  pub answers_are : calls.answers.items ≡ answers_of seed count
  pub last_is : calls.last ≡ length (message_at seed count)

-- what one call more leaves
pub record OneMore (call : Drawn) (old new : Calls) : Type 0 where
  pub state : new.state ≡ old.state
  pub entry : (front before : List ℕ) → old.log.items ≡ front ++ before → old.last ≡ length before
      → new.log.items ≡ old.log.items ++ entry_of call before
  pub last : (before : List ℕ) → old.last ≡ length before → new.last ≡ length (message_after call before)
  pub answers : new.answers.items ≡ old.answers.items ++ flat_map answer_line (triples_of call)
