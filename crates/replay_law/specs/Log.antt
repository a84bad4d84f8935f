-- What the answers to a whole log have to be, whatever was held between its rounds (this project's own rule).
use Rattle.std.specs.Prelude.{◌≡◌, ◌≢◌, ℕ, ◌<◌, ◌≤◌, ◌⊎◌, true, false, List, Option, Some}
use Rattle.std.specs.List.{slice_get}
use Rattle.std.specs.Option.{option_and_then}
use Rattle.replay_law.specs.Row.{valid, replay, neither, Row, Uses}
use Rattle.replay_law.specs.Round.{Round}

-- the row at a place of a round, both counted from 0
abbrev pub row_at : List Round → ℕ → ℕ → Option Row
row_at rounds round place = option_and_then (λ r. slice_get r.rows place) (slice_get rounds round)

-- the row is at this place of this round
abbrev pub StandsIn : List Round → ℕ → ℕ → Row → Type 0
StandsIn rounds round place row = row_at rounds round place ≡ Some row

-- Of the calls that pass with the ticket, in whatever round, exactly one is valid. It is in the first round that has
-- such a call, and each other is a replay of it.
pub record LogWinner (rounds : List Round) (ticket : List ℕ) : Type 0 where
  pub round : ℕ
  pub place : ℕ
  pub winner : Row
  pub stands : StandsIn rounds round place winner
  pub uses : Uses ticket winner
  pub wins : winner.answer ≡ valid
  pub first : (other_round other : ℕ) (row : Row) → StandsIn rounds other_round other row
      → Uses ticket row → round ≤ other_round
  pub others : (other_round other : ℕ) (row : Row) → StandsIn rounds other_round other row → Uses ticket row
      → (other_round ≡ round → other ≢ place) → row.answer ≡ replay winner.number

-- The answers are legal, as far as the single use of tickets goes.
pub record RowsLegal (rounds : List Round) : Type 0 where
  -- a call that doesn't pass is neither valid nor a replay
  pub refused : (round place : ℕ) (row : Row) → StandsIn rounds round place row
      → row.passes ≡ false → row.answer ≡ neither
  -- a ticket with which some call passes has one valid call
  pub once : (round place : ℕ) (row : Row) → StandsIn rounds round place row → row.passes ≡ true
      → LogWinner rounds row.ticket

-- one place of the log comes before another
abbrev pub IsBefore : ℕ → ℕ → ℕ → ℕ → Type 0
IsBefore round place other_round other = (round < other_round) ⊎ ((round ≡ other_round) × (place < other))

-- the number is that of the ticket's valid call, and of no other call of the log
pub record NamesOne (rounds : List Round) (ticket : List ℕ) (number : ℕ) : Type 0 where
  pub valid_call : LogWinner rounds ticket
  pub names : valid_call.winner.number ≡ number
  pub alone : (round place : ℕ) (row : Row) → StandsIn rounds round place row → row.number ≡ number
      → row ≡ valid_call.winner
