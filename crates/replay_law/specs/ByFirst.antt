-- A log that is answered by its calls alone, without rounds and without a past: the first call that passes with a
-- ticket is valid, and each later one is a replay of it (this project's own rule).
use Rattle.std.specs.Prelude.{◌≡◌, ℕ, ◌<◌, ◌≤◌, true, false, List, [], ◌∷◌, ◌++◌, Some, None}
use Rattle.replay_law.specs.Held.{Held, Kept, kept_of}
use Rattle.replay_law.specs.Row.{valid, replay, neither, Row, Uses, Stands}
use Rattle.replay_law.specs.Round.{Round}
use Rattle.replay_law.specs.Log.{RowsLegal}
use Rattle.replay_law.specs.Turn.{FirstOfLogWins}
use Rattle.replay_law.specs.Law.{IsSameCall}

-- the calls of all rounds, in their order
abbrev pub rows_in : List Round → List Row
rows_in [] = []
rows_in (round ∷ rounds) = round.rows ++ rows_in rounds

-- the call at this place is the first that passes with the ticket
pub record IsFirst (rows : List Row) (ticket : List ℕ) (place : ℕ) (row : Row) : Type 0 where
  pub stands : Stands rows place row
  pub uses : Uses ticket row
  pub none_before : (other : ℕ) (same : Row) → Stands rows other same → Uses ticket same → place ≤ other

-- each call has the answer that the first call with its ticket gives it
pub record AnsweredByFirst (rows : List Row) : Type 0 where
  -- a call that doesn't pass is neither valid nor a replay
  pub refused : (place : ℕ) (row : Row) → Stands rows place row → row.passes ≡ false → row.answer ≡ neither
  -- the first that passes with its ticket is valid
  pub first : (place : ℕ) (row : Row) → IsFirst rows row.ticket place row → row.answer ≡ valid
  -- and each later one is a replay of it
  pub later : (place other : ℕ) (winner row : Row) → IsFirst rows row.ticket place winner → Stands rows other row
      → row.passes ≡ true → place < other → row.answer ≡ replay winner.number

-- ---- over what is kept of the calls of earlier days

-- What is kept of calls that were answered before: for a ticket the first call that passed with it, unless its last
-- second is below the moment.
pub record IsKeptOf (moment : ℕ) (rows : List Row) (held : Held) : Type 0 where
  pub names : (ticket : List ℕ) (kept : Kept) → held ticket ≡ Some kept
      → (place : ℕ) × (row : Row) × IsFirst rows ticket place row × (kept ≡ kept_of row)
  pub drops : (ticket : List ℕ) (place : ℕ) (row : Row) → IsFirst rows ticket place row
      → held ticket ≡ None → row.last < moment

-- Each call has the answer of the first call with its ticket, which may be one of those that are kept.
pub record AnsweredAfter (held : Held) (rows : List Row) : Type 0 where
  pub refused : (place : ℕ) (row : Row) → Stands rows place row → row.passes ≡ false → row.answer ≡ neither
  -- a call that passes with a ticket that is kept is a replay of the earlier call
  pub earlier : (place : ℕ) (row : Row) (kept : Kept) → Stands rows place row → row.passes ≡ true
      → held row.ticket ≡ Some kept → row.answer ≡ replay kept.call
  pub first : (place : ℕ) (row : Row) → IsFirst rows row.ticket place row → held row.ticket ≡ None → row.answer ≡ valid
  pub later : (place other : ℕ) (winner row : Row) → IsFirst rows row.ticket place winner → Stands rows other row
      → row.passes ≡ true → held row.ticket ≡ None → place < other → row.answer ≡ replay winner.number

-- a call that passes is fresh (RFC 8224, section 6.2), and none comes before the moment
pub record AreFreshFrom (moment : ℕ) (rows : List Row) : Type 0 where
  pub fresh : (place : ℕ) (row : Row) → Stands rows place row → row.passes ≡ true → row.moment ≤ row.last
  pub from : (place : ℕ) (row : Row) → Stands rows place row → moment ≤ row.moment

-- calls that pass with one ticket have one last second
abbrev pub HaveOneLast : List Row → Type 0
HaveOneLast rows = (place other : ℕ) (row same : Row) → Stands rows place row → row.passes ≡ true
    → Stands rows other same → Uses row.ticket same → row.last ≡ same.last

-- ---- the same calls, answered twice

-- the same calls, whatever was answered to them
abbrev pub AreSameCalls : List Row → List Row → Type 0
AreSameCalls [] [] = Unit {0}
AreSameCalls [] (other ∷ others) = ⊥
AreSameCalls (row ∷ rows) [] = ⊥
AreSameCalls (row ∷ rows) (other ∷ others) = IsSameCall row other × AreSameCalls rows others

-- and the same was answered to them
abbrev pub AreAnsweredAlike : List Row → List Row → Type 0
AreAnsweredAlike [] [] = Unit {0}
AreAnsweredAlike [] (other ∷ others) = ⊥
AreAnsweredAlike (row ∷ rows) [] = ⊥
AreAnsweredAlike (row ∷ rows) (other ∷ others) = (row.answer ≡ other.answer) × AreAnsweredAlike rows others

-- ---- the laws

-- Answers by the first call are legal, whatever the cut into rounds, and the first call of the log that passes with a
-- ticket is the valid one.
abbrev pub FirstIsLegal : Type 0
FirstIsLegal = (rounds : List Round) → AnsweredByFirst (rows_in rounds) → RowsLegal rounds × FirstOfLogWins rounds

-- And if that call is the valid one of a log with legal answers, these are the answers by the first call.
abbrev pub LegalIsFirst : Type 0
LegalIsFirst = (rounds : List Round) → RowsLegal rounds → FirstOfLogWins rounds → AnsweredByFirst (rows_in rounds)

-- The same calls have one list of such answers.
abbrev pub OneByFirst : Type 0
OneByFirst = (rows others : List Row) → AreSameCalls rows others → AnsweredByFirst rows → AnsweredByFirst others
    → AreAnsweredAlike rows others

-- A day after others: if its calls are answered over what is kept of the earlier ones, all days together are answered
-- by the first call of each ticket.
abbrev pub DayAfterDay : Type 0
DayAfterDay = (moment : ℕ) (held : Held) (before rows : List Row) → AnsweredByFirst before → IsKeptOf moment before held
    → AnsweredAfter held rows → AreFreshFrom moment rows → HaveOneLast (before ++ rows)
    → AnsweredByFirst (before ++ rows)
