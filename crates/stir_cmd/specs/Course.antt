-- What a command promises of a run. Each is said of what was around the program before the run and of what is there
-- after it.
use Rattle.std.specs.Prelude.{ℕ}
use Rattle.stir_cmd.specs.Outside.{Outside}

pub record Course : Type 1 where
  -- what the run came to, whatever its status
  pub Came : Outside → Outside → ℕ → Type 0
  -- 0 and 1: it is done
  pub Done : Outside → Outside → ℕ → Type 0
  -- 3: a file or the input couldn't be read
  pub Unread : Outside → Outside → Type 0
  -- 4: the output couldn't be written, and a prefix of what was to be written was
  pub Unwritten : Outside → Outside → Type 0
  -- 5: a file or the input is refused
  pub Refused : Outside → Outside → Type 0
  -- 6: memory ran out
  pub Short : Outside → Outside → Type 0
  -- which status comes if nothing fails outside
  pub Answers : Outside → Outside → ℕ → Type 0
  -- if it is done: how much of the input was read, and what that means in the words of the command's subject
  pub Through : Outside → Outside → ℕ → Type 0
  pub Says : Outside → Outside → ℕ → Type 0
