-- What the replay rule sees of a call (this project's own rule): of the calls that break no other rule and have one
-- ticket, one passes, and each other is refused as a replay of it.
use Rattle.std.specs.Prelude.{◌≡◌, ℕ, Bool, true, List, Some}
use Rattle.std.specs.List.{slice_get}

-- what was answered to a call
pub data Answer : Type 0 where
  valid : Answer
  -- refused as a replay of the call of this number
  replay : ℕ → Answer
  -- refused by another rule, or set aside for a fault outside
  neither : Answer

-- A call and what was answered to it.
pub record Row : Type 0 where
  pub number : ℕ
  -- when the call was received, in seconds of Unix time
  pub moment : ℕ
  -- the SHA-256 of the signing input of the call's last PASSporT
  pub ticket : List ℕ
  -- the last second at which this PASSporT is fresh
  pub last : ℕ
  -- the call breaks no rule but this one, and isn't set aside
  pub passes : Bool
  pub answer : Answer

-- the call passes with this ticket
pub record Uses (ticket : List ℕ) (row : Row) : Type 0 where
  pub passes : row.passes ≡ true
  pub same : row.ticket ≡ ticket

-- the row is at this place of the list, counted from 0
abbrev pub Stands : List Row → ℕ → Row → Type 0
Stands rows place row = slice_get rows place ≡ Some row
