-- What the seat of share 1 knows of tickets (this project's own rule). Levels are counted from 0.
use Rattle.std.specs.Prelude.{◌≡◌, ◌≢◌, ℕ, ◌<◌, ◌≤◌, List}
use Rattle.live_desk.specs.Lists.{In}
use Rattle.live_desk.specs.Ticket.{IsTicket, pieces}
use Rattle.live_desk.specs.Trail.{FoundLast, FullAt, Trail}
use Rattle.live_desk.specs.Holder.{Holder}
use Rattle.live_desk.specs.Laws.{IsWon, first_pieces, won}
use Rattle.live_desk.specs.declared.view.SetWord.{SetWord}

-- Each slot of a level was set for a ticket. These tickets differ from one another, and from this one, in their pieces
-- up to that level
pub record Others (size : ℕ) (sets : List SetWord) (ticket : List ℕ) (level : ℕ) : Type 0 where
  pub at : (slot : ℕ) → slot < size → SetWord
  pub set : (slot : ℕ) (within : slot < size)
      → In (at slot within) sets × ((at slot within).level ≡ level) × ((at slot within).slot ≡ slot)
  pub other : (slot : ℕ) (within : slot < size) → first_pieces level (at slot within).ticket ≢ first_pieces level ticket
  pub apart : (one two : ℕ) (w : one < size) (z : two < size) → one ≢ two
      → first_pieces level (at one w).ticket ≢ first_pieces level (at two z).ticket

-- What a seat of share 1 knows
pub record Closing (h : Holder) : Type 0 where
  -- no ticket was won twice
  pub once : (ticket : List ℕ) → won ticket h.sets ≤ 1
  -- a ticket that a claim lost was won
  pub lost : (ticket : List ℕ) → IsTicket ticket → FoundLast ticket h.sets h.seen → IsWon ticket h.sets
  -- so was each whose codes were set or found at all six levels, as those of a ticket that is held
  pub held : (ticket : List ℕ) (slot : ℕ) → IsTicket ticket
      → Trail h.sets h.seen (pieces ticket) 6 slot → IsWon ticket h.sets
  -- if each word of a level was found without a ticket's code, each slot of it is another ticket's
  pub full : (ticket : List ℕ) (level : ℕ) → IsTicket ticket → level < 6 → FullAt h.desk.size ticket h.sets h.seen level
      → Others h.desk.size h.sets ticket level
