-- What may come of a list of tickets that are claimed on one desk, by however many workers (this project's own rule).
-- Places count from 0, and levels from 1.
use Rattle.std.specs.Prelude.{◌≡◌, ◌≢◌, ℕ, ◌<◌, ◌≤◌, List, length, take, slice_get, Some}
use Rattle.live_desk.specs.Ticket.{pieces}
use Rattle.live_desk.specs.declared.claim.LiveClaim.{LiveClaim}
use Rattle.live_desk.specs.declared.claim.LiveClaim.TheVariants.{Won, Lost, Full}

-- the line of this place: its ticket, and what came of it
abbrev pub Line : List (List ℕ) → List LiveClaim → ℕ → List ℕ → LiveClaim → Type 0
Line tickets claims place ticket claim = (slice_get tickets place ≡ Some ticket) × (slice_get claims place ≡ Some claim)

-- it isn't full at this level or at a smaller one
abbrev pub NotFullUpTo : ℕ → LiveClaim → Type 0
NotFullUpTo level Won = Unit {0}
NotFullUpTo level Lost = Unit {0}
NotFullUpTo level (Full at) = level < at

-- a ticket's pieces up to a level, of which a desk has one a level
abbrev pub pieces_up_to : ℕ → List ℕ → List ℕ
pieces_up_to level ticket = take level (pieces ticket)

-- A line that isn't full up to a level, and whose ticket differs from this one in its pieces up to that level
pub record OtherLine (tickets : List (List ℕ)) (claims : List LiveClaim) (ticket : List ℕ) (level : ℕ) : Type 0 where
  pub place : ℕ
  pub own : List ℕ
  pub claim : LiveClaim
  pub line : Line tickets claims place own claim
  pub not_full : NotFullUpTo level claim
  pub differs : pieces_up_to level own ≢ pieces_up_to level ticket

-- There are as many such lines as a level has slots, and their tickets differ from one another too
pub record HasOthers (size : ℕ) (tickets : List (List ℕ)) (claims : List LiveClaim) (ticket : List ℕ)
    (level : ℕ) : Type 0 where
  pub other : (n : ℕ) → n < size → OtherLine tickets claims ticket level
  pub apart : (m n : ℕ) (few_m : m < size) (few_n : n < size) → m ≢ n
      → pieces_up_to level (other m few_m).own ≢ pieces_up_to level (other n few_n).own

-- This came of the tickets, on a desk with so many slots a level
pub record AreClaims (size : ℕ) (tickets : List (List ℕ)) (claims : List LiveClaim) : Type 0 where
  -- each ticket has its line
  pub each : length claims ≡ length tickets
  -- of the lines of one ticket at most one is won
  pub once : (one two : ℕ) (ticket : List ℕ) → Line tickets claims one ticket Won
      → Line tickets claims two ticket Won → one ≡ two
  -- if one of them is lost, one is won
  pub lost : (place : ℕ) (ticket : List ℕ) → Line tickets claims place ticket Lost
      → (winner : ℕ) × Line tickets claims winner ticket Won
  -- if one is full at a level, the slots of that level are those of other tickets
  pub full : (place : ℕ) (ticket : List ℕ) (level : ℕ) → Line tickets claims place ticket (Full level)
      → (1 ≤ level) × (level ≤ 6) × HasOthers size tickets claims ticket level

-- each ticket of the list is one of these
abbrev pub AreAmong : List (List ℕ) → List (List ℕ) → Type 0
AreAmong tickets kinds = (place : ℕ) (ticket : List ℕ) → slice_get tickets place ≡ Some ticket
    → (n : ℕ) × (slice_get kinds n ≡ Some ticket)

-- No line is full if there are at most as many different tickets as a level has slots
abbrev pub RoomForAll : Type 0
RoomForAll = (size : ℕ) (tickets : List (List ℕ)) (claims : List LiveClaim) → AreClaims size tickets claims
    → (kinds : List (List ℕ)) → AreAmong tickets kinds → length kinds ≤ size → (place : ℕ) (ticket : List ℕ) (level : ℕ)
    → Line tickets claims place ticket (Full level) → ⊥
