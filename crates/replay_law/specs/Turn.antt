-- Calls that are answered one after another, each over what the one before it left (this project's own rule).
use Rattle.std.specs.Prelude.{◌≡◌, ◌≢◌, ℕ, ◌≤◌, true, false, List, [], ◌∷◌, Some, None}
use Rattle.std.specs.List.{slice_get}
use Rattle.replay_law.specs.Row.{valid, replay, neither, Row, Uses, Stands}
use Rattle.replay_law.specs.Held.{Kept, Held, Same, kept_of}
use Rattle.replay_law.specs.Round.{Round}
use Rattle.replay_law.specs.Log.{StandsIn, IsBefore}

-- the call is kept for its ticket, and what was kept for every other ticket stays
pub record Adds (held : Held) (row : Row) (next : Held) : Type 0 where
  pub gained : next row.ticket ≡ Some (kept_of row)
  pub rest : (ticket : List ℕ) → ticket ≢ row.ticket → held ticket ≡ next ticket

-- One call is answered over what is held, and `next` is held after it.
pub record Turn (held : Held) (row : Row) (next : Held) : Type 0 where
  -- a call that doesn't pass is neither valid nor a replay, and changes nothing
  pub refused : row.passes ≡ false → (row.answer ≡ neither) × Same held next
  -- one that passes with a ticket that is held is a replay, and changes nothing
  pub replays : (kept : Kept) → row.passes ≡ true → held row.ticket ≡ Some kept
      → (row.answer ≡ replay kept.call) × Same held next
  -- any other is valid, and is kept
  pub wins : row.passes ≡ true → held row.ticket ≡ None → (row.answer ≡ valid) × Adds held row next

-- the calls are answered in turn
abbrev pub Turns : Held → List Row → Held → Type 0
Turns held [] next = Same held next
Turns held (row ∷ rows) next = (middle : Held) × Turn held row middle × Turns middle rows next

-- a valid call of a round is the first of it that passes with its ticket
abbrev pub FirstWins : List Row → Type 0
FirstWins rows = (place other : ℕ) (winner row : Row) → Stands rows place winner → winner.answer ≡ valid
    → Stands rows other row → Uses winner.ticket row → place ≤ other

-- it is so in each round
abbrev pub EachFirstWins : List Round → Type 0
EachFirstWins rounds = (place : ℕ) (round : Round) → slice_get rounds place ≡ Some round → FirstWins round.rows

-- a valid call of a log is the first of all that pass with its ticket
abbrev pub FirstOfLogWins : List Round → Type 0
FirstOfLogWins rounds = (round place other_round other : ℕ) (winner row : Row) → StandsIn rounds round place winner
    → winner.answer ≡ valid → StandsIn rounds other_round other row → Uses winner.ticket row
    → IsBefore other_round other round place → ⊥
