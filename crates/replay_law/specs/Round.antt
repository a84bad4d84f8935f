-- A round: calls that are answered together, over what was held before it (this project's own rule).
use Rattle.std.specs.Prelude.{◌≡◌, ◌≢◌, ℕ, true, false, List, [], ◌∷◌, Some, None}
use Rattle.replay_law.specs.Row.{valid, replay, neither, Row, Uses, Stands}
use Rattle.replay_law.specs.Held.{Kept, Held, Same, purged, kept_of}

-- Of the calls that pass with the ticket exactly one is valid, and each other is a replay of it.
pub record Winner (rows : List Row) (ticket : List ℕ) : Type 0 where
  pub place : ℕ
  pub winner : Row
  pub stands : Stands rows place winner
  pub uses : Uses ticket winner
  pub wins : winner.answer ≡ valid
  pub others : (other : ℕ) (row : Row) → Stands rows other row → Uses ticket row → other ≢ place
      → row.answer ≡ replay winner.number

-- The calls of a round are answered over what is held, and `next` is held after them.
pub record Settled (held : Held) (rows : List Row) (next : Held) : Type 0 where
  -- a call that doesn't pass is neither valid nor a replay
  pub refused : (place : ℕ) (row : Row) → Stands rows place row → row.passes ≡ false → row.answer ≡ neither
  -- a call that passes with a ticket that is held is a replay of the call that it is kept for
  pub replays : (place : ℕ) (row : Row) (kept : Kept) → Stands rows place row → row.passes ≡ true
      → held row.ticket ≡ Some kept → row.answer ≡ replay kept.call
  -- of those that pass with any other ticket exactly one is valid, and each other is a replay of it
  pub winners : (place : ℕ) (row : Row) → Stands rows place row → row.passes ≡ true → held row.ticket ≡ None
      → Winner rows row.ticket
  -- what was held stays,
  pub stays : (ticket : List ℕ) (kept : Kept) → held ticket ≡ Some kept → next ticket ≡ Some kept
  -- each valid call is kept for its ticket,
  pub gains : (place : ℕ) (row : Row) → Stands rows place row → row.answer ≡ valid
      → next row.ticket ≡ Some (kept_of row)
  -- and nothing else is held
  pub no_more : (ticket : List ℕ) → held ticket ≡ None → ((place : ℕ) (row : Row) → Stands rows place row
      → row.ticket ≡ ticket → row.answer ≢ valid) → next ticket ≡ None

-- The calls of a round, and the moment by which the past is purged before them.
pub record Round : Type 0 where
  pub moment : ℕ
  pub rows : List Row

-- the moment of the first call
abbrev pub first_moment : List Row → ℕ
first_moment [] = 0
first_moment (row ∷ rows) = row.moment

-- a round of these calls
abbrev pub round_of : List Row → Round
round_of rows = record { moment = first_moment rows; rows = rows }

-- a round without calls, which only purges: so if memory ran out for its calls, and when one run hands its past on to
-- the next
abbrev pub purge_at : ℕ → Round
purge_at moment = record { moment = moment; rows = [] }

-- the round is settled over a past, which is purged first
abbrev pub RoundSettled : Held → Round → Held → Type 0
RoundSettled past round next = Settled (purged round.moment past) round.rows next

-- the rounds are settled in turn, each over what the one before it left
abbrev pub Rounds : Held → List Round → Held → Type 0
Rounds past [] next = Same past next
Rounds past (round ∷ rounds) next = (middle : Held) × RoundSettled past round middle × Rounds middle rounds next
