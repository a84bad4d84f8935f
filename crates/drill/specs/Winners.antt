-- How many calls of a log are valid, whatever its cut into rounds (this project's own rule).
use Rattle.std.specs.Prelude.{ℕ, suc, ◌⊎◌, List, [], ◌∷◌, ◌++◌}
use Rattle.replay_law.specs.Round.{Round}
use Rattle.replay_law.specs.Row.{Answer, valid, replay, neither, Row, Uses}

-- the calls of all rounds
abbrev pub all_rows : List Round → List Row
all_rows [] = []
all_rows (round ∷ rounds) = round.rows ++ all_rows rounds

-- one of the calls passes with the ticket
abbrev pub PassesIn : List ℕ → List Row → Type 0
PassesIn ticket [] = ⊥
PassesIn ticket (row ∷ rows) = Uses ticket row ⊎ PassesIn ticket rows

-- with each ticket with which one of these passes, one of those does, and the other way round
pub record SameTickets (rows others : List Row) : Type 0 where
  pub to : (ticket : List ℕ) → PassesIn ticket rows → PassesIn ticket others
  pub back : (ticket : List ℕ) → PassesIn ticket others → PassesIn ticket rows

abbrev pub more_valid : Answer → ℕ → ℕ
more_valid valid count = suc count
more_valid (replay number) count = count
more_valid neither count = count

-- how many of the calls are valid
abbrev pub valid_count : List Row → ℕ
valid_count [] = 0
valid_count (row ∷ rows) = more_valid row.answer (valid_count rows)
