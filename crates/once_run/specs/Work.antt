-- What workers do with a list of tickets: how far each has come, and what their seats have together. Places and workers
-- count from 0.
use Rattle.std.specs.Prelude.{◌≡◌, ◌≢◌, ℕ, ◌+◌, ◌%◌, ◌<◌, ◌≤◌, Option, Some, None, List, [], ◌∷◌, length}
use Rattle.std.specs.Prelude.{slice_index_or}
use Rattle.live_desk.specs.Claimed.{BeforeFull}
use Rattle.live_desk.specs.Holder.{Holder, LiveDesk, both_of}
use Rattle.live_desk.specs.Laws.{won}
use Rattle.live_desk.specs.Lists.{In}
use Rattle.live_desk.specs.Ticket.{IsTicket, pieces}
use Rattle.live_desk.specs.Trail.{FullAt, Trail}
use Rattle.live_desk.specs.declared.view.SetWord.{SetWord}
use Rattle.live_desk.specs.declared.claim.LiveClaim.{LiveClaim}
use Rattle.live_desk.specs.declared.claim.LiveClaim.TheVariants.{Won, Lost, Full}
use Rattle.once_run.specs.declared.worker.Worker.{Worker}

abbrev pub ticket_at : List (List ℕ) → ℕ → List ℕ
ticket_at tickets n = slice_index_or tickets n []

abbrev pub claim_at : List LiveClaim → ℕ → LiveClaim
claim_at claims n = slice_index_or claims n Won

-- what a claim says of its ticket, as a seat knows it
abbrev pub SeatHas : ℕ → List ℕ → Holder → LiveClaim → Type 0
SeatHas size ticket h Won = 0 < won ticket h.sets
SeatHas size ticket h Lost = IsTicket ticket × ((slot : ℕ) × Trail h.sets h.seen (pieces ticket) 6 slot)
SeatHas size ticket h (Full n) =
    (level : ℕ) × (n ≡ level + 1) × (level < 6) × IsTicket ticket × FullAt size ticket h.sets h.seen level

-- what a worker's seat has of its tickets before a place
pub record Worked (size : ℕ) (tickets : List (List ℕ)) (count worker upto : ℕ) (h : Holder)
    (claims : List LiveClaim) : Type 0 where
  pub each : (n : ℕ) → n < upto → n % count ≡ worker → SeatHas size (ticket_at tickets n) h (claim_at claims n)
  -- a ticket that was won at two places was won twice
  pub twice : (m n : ℕ) → m < upto → n < upto → m % count ≡ worker → n % count ≡ worker → m ≢ n → ticket_at tickets m
      ≡ ticket_at tickets n → claim_at claims m ≡ Won → claim_at claims n ≡ Won → 2 ≤ won (ticket_at tickets n) h.sets
  -- each set is of one of the tickets
  pub sets : (e : SetWord) → In e h.sets → (n : ℕ) × (n < upto) × (n % count ≡ worker)
      × (e.ticket ≡ ticket_at tickets n) × BeforeFull (claim_at claims n) e.level

-- a worker with a fresh seat of the desk, and room for so many claims
pub record Seated (desk : LiveDesk) (room : ℕ) (w : Worker) : Type 0 where
  pub holder : Holder
  pub seat : w.seat ≡ Some holder
  pub of : holder.desk ≡ desk
  pub fresh : holder.sets ≡ []
  pub claims : length w.claims.items ≡ room

-- a worker after its work
pub record Carried (desk : LiveDesk) (tickets : List (List ℕ)) (count worker : ℕ) (before after : Worker) : Type 0 where
  pub was : Holder
  pub holder : Holder
  pub had : before.seat ≡ Some was
  pub seat : after.seat ≡ Some holder
  pub of : holder.desk ≡ desk
  pub share : holder.share ≡ was.share
  pub claims : length after.claims.items ≡ length tickets
  pub worked : Worked desk.size tickets count worker (length tickets) holder after.claims.items

-- a seat, if there is one, is of this desk
abbrev pub OfDesk : LiveDesk → Option Holder → Type 0
OfDesk desk None = Unit {0}
OfDesk desk (Some h) = h.desk ≡ desk

-- the share of a worker's seat
abbrev pub seat_share : Option Holder → ℕ
seat_share None = 0
seat_share (Some h) = h.share

abbrev pub share_of : Worker → ℕ
share_of w = seat_share w.seat

-- a seat after a worker's, if it has one, was joined to it
abbrev pub with_seat : Holder → Option Holder → Holder
with_seat h None = h
with_seat h (Some other) = both_of h other

-- a seat after those of all workers were joined to it, the last first
abbrev pub joined : Holder → List Worker → Holder
joined h [] = h
joined h (w ∷ ws) = with_seat (joined h ws) w.seat
