-- What the workers of a round did, each with its calls, and what all of them did together.
use Rattle.std.specs.Prelude.{◌≡◌, ⊤, ℕ, zero, suc, ◌+◌, ◌<◌, ◌≤◌, ◌%◌, ◌==◌, ◌&&◌, ◌⊎◌, Bool, true, false, List, []}
use Rattle.std.specs.Prelude.{◌∷◌, get_or, length, Option, Some, None, if◌then◌else◌}
use Rattle.std.specs.List.{slice_get}
use Rattle.replay_desk.specs.Holder.{DeskId, Holder, both_of}
use Rattle.live_desk.specs.Lists.{In, whole}
use Rattle.replay_desk.specs.Past.{PastView, found}
use Rattle.stir_outside.specs.Count.{AtMost}
use Rattle.call_judging.specs.Causes.{HasCauseIf}
use Rattle.verify_service.specs.Causes.{is_unasked_passport}
use Rattle.verify_service.specs.Claiming.{OutcomeSays, ReplaysKept, loss_of, pair_of}
use Rattle.verify_service.specs.Ready.{Basis, IsFresh, Provided, class_in, ticket_in}
use Rattle.verify_service.specs.Screening.{readings_in}
use Rattle.verify_service.specs.declared.outcome.Outcome.{Outcome}
use Rattle.verify_service.specs.declared.outcome.Outcome.TheVariants as outcomes
use Rattle.verify_service.specs.declared.screening.ReadyCall.{ReadyCall}

-- ---- answers by the index of their call

abbrev pub out_at : List Outcome → ℕ → Outcome
out_at outs at = get_or outs at outcomes.Valid

-- ---- wins and losses of calls

-- what was answered to the call is in the seat's wins or losses
abbrev pub Placed : PastView → ReadyCall → Holder → Outcome → Type 0
Placed past call seat outcomes.Valid = (found past (ticket_in call.screening) ≡ None) × In (pair_of call) seat.wins
Placed past call seat (outcomes.Replay winner) = ReplaysKept past (ticket_in call.screening) winner
    ⊎ ((found past (ticket_in call.screening) ≡ None) × In (loss_of call winner) seat.losses)
Placed past call seat (outcomes.Refused refused) = ⊤
Placed past call seat (outcomes.Unread bad) = ⊤
Placed past call seat (outcomes.Unasked bad) = ⊤

-- A call below this index is valid, and the pair is its win.
pub record IsWin (calls : List ReadyCall) (outs : List Outcome) (upto : ℕ) (p : ℕ × ℕ) : Type 0 where
  pub at : ℕ
  pub call : ReadyCall
  pub below : at < upto
  pub stands : slice_get calls at ≡ Some call
  pub pair : p ≡ pair_of call
  pub valid : out_at outs at ≡ outcomes.Valid

-- A call below this index is a replay, the past hasn't its ticket, and the pair is its loss.
pub record IsLoss (past : PastView) (calls : List ReadyCall) (outs : List Outcome) (upto : ℕ) (p : ℕ × ℕ) : Type 0 where
  pub at : ℕ
  pub call : ReadyCall
  pub below : at < upto
  pub stands : slice_get calls at ≡ Some call
  pub class : p.0 ≡ class_in call
  pub replay : out_at outs at ≡ outcomes.Replay p.1
  pub free : found past (ticket_in call.screening) ≡ None

-- The seat has exactly the wins of the valid calls, and the losses of the replays whose ticket the past hasn't.
pub record HasClaims (past : PastView) (calls : List ReadyCall) (outs : List Outcome) (seat : Holder) : Type 0 where
  pub each : (at : ℕ) (call : ReadyCall) → slice_get calls at ≡ Some call → Placed past call seat (out_at outs at)
  pub wins : (p : ℕ × ℕ) → In p seat.wins → IsWin calls outs (length calls) p
  pub losses : (p : ℕ × ℕ) → In p seat.losses → IsLoss past calls outs (length calls) p

-- each call that lost lost to one before it
abbrev pub IsInTurn : PastView → List ReadyCall → List Outcome → Type 0
IsInTurn past calls outs = (at : ℕ) (call : ReadyCall) (winner : ℕ) → slice_get calls at ≡ Some call → out_at outs at
    ≡ outcomes.Replay winner → found past (ticket_in call.screening) ≡ None → IsWin calls outs at (loss_of call winner)

-- ---- a worker's calls: those whose index leaves the worker's as remainder, for so many workers

-- the win is that of a call of this worker
pub record OwnWin (calls : List ReadyCall) (outs : List Outcome) (count worker upto : ℕ) (p : ℕ × ℕ) : Type 0 where
  pub win : IsWin calls outs upto p
  pub own : win.at % count ≡ worker

pub record OwnLoss (past : PastView) (calls : List ReadyCall) (outs : List Outcome) (count worker upto : ℕ)
    (p : ℕ × ℕ) : Type 0 where
  pub loss : IsLoss past calls outs upto p
  pub own : loss.at % count ≡ worker

-- The worker's calls below this index claimed with a seat that was fresh: it has exactly their wins and losses. With
-- the whole share, each that lost lost to one before it.
pub record Claimed (past : PastView) (calls : List ReadyCall) (count worker upto : ℕ) (old new : Holder)
    (outs : List Outcome) : Type 0 where
  pub desk : new.desk ≡ old.desk
  pub share : new.share ≡ old.share
  pub each : (at : ℕ) (call : ReadyCall) → slice_get calls at ≡ Some call → at < upto → at % count ≡ worker
      → Placed past call new (out_at outs at)
  pub wins : (p : ℕ × ℕ) → In p new.wins → OwnWin calls outs count worker upto p
  pub losses : (p : ℕ × ℕ) → In p new.losses → OwnLoss past calls outs count worker upto p
  pub in_turn : old.share ≡ whole → (at : ℕ) (call : ReadyCall) (winner : ℕ) → slice_get calls at ≡ Some call
      → at < upto → at % count ≡ worker → out_at outs at ≡ outcomes.Replay winner
      → found past (ticket_in call.screening) ≡ None → IsWin calls outs at (loss_of call winner)

-- the same of all its calls, if its seats are these
abbrev pub HasClaimed : PastView → List ReadyCall → ℕ → ℕ → Option Holder → Option Holder → List Outcome → Type 0
HasClaimed past calls count worker None new outs = ⊥
HasClaimed past calls count worker (Some old) None outs = ⊥
HasClaimed past calls count worker (Some old) (Some new) outs =
    Claimed past calls count worker (length calls) old new outs

-- a fresh seat of this desk
abbrev pub HasSeat : DeskId → Option Holder → Type 0
HasSeat desk None = ⊥
HasSeat desk (Some seat) = IsFresh desk seat

-- ---- what its provider was asked

abbrev pub one_if : Bool → ℕ
one_if true = 1
one_if false = 0

-- how many of the worker's calls below an index are set aside for a signature of their own
abbrev pub own_open : ℕ → ℕ → List Outcome → ℕ → ℕ
own_open count worker outs zero = 0
own_open count worker outs (suc n) =
    one_if ((n % count == worker) && is_unasked_passport (out_at outs n)) + own_open count worker outs n

abbrev pub passports_at : Option ReadyCall → ℕ
passports_at None = 0
passports_at (Some call) = length (readings_in call.screening)

-- how many PASSporTs are judged in them
abbrev pub own_passports : ℕ → ℕ → List ReadyCall → ℕ → ℕ
own_passports count worker calls zero = 0
own_passports count worker calls (suc n) =
    (if n % count == worker then passports_at (slice_get calls n) else 0) + own_passports count worker calls n

-- Each of the worker's calls below this index was answered what the rules say, by what its provider says. The provider
-- was asked no more often than these calls have PASSporTs that are judged. For a signature of their own, they are set
-- aside at most as often as it failed, and one only if it failed.
pub record Answered (on : Basis) (by : Provided) (calls : List ReadyCall) (count worker upto : ℕ)
    (outs : List Outcome) : Type 0 where
  pub said : (at : ℕ) (call : ReadyCall) → slice_get calls at ≡ Some call → at < upto → at % count ≡ worker
      → OutcomeSays on by call (out_at outs at)
  pub cause : (at : ℕ) → at < upto → at % count ≡ worker
      → HasCauseIf (is_unasked_passport (out_at outs at)) by.faults by.faults_now
  pub asks_most : by.asks_now ≤ by.asks + own_passports count worker calls upto
  pub asks_stay : by.asks ≤ by.asks_now
  pub unasked : AtMost (own_open count worker outs upto) by.faults by.faults_now
  pub faults_stay : by.faults ≤ by.faults_now

-- the same of all its calls
abbrev pub HasAnswered : Basis → Provided → List ReadyCall → ℕ → ℕ → List Outcome → Type 0
HasAnswered on by calls count worker outs = Answered on by calls count worker (length calls) outs

-- ---- the seats together

abbrev pub joined_two : Option Holder → Option Holder → Option Holder
joined_two None other = other
joined_two (Some seat) None = Some seat
joined_two (Some seat) (Some other) = Some (both_of seat other)

-- the seat that joins these, one after another, to the first
abbrev pub joined_from : Option Holder → List (Option Holder) → Option Holder
joined_from seat [] = seat
joined_from seat (other ∷ others) = joined_from (joined_two seat other) others

-- it is a seat of this desk, if it is one
abbrev pub IsOfDesk : DeskId → Option Holder → Type 0
IsOfDesk desk None = ⊤
IsOfDesk desk (Some seat) = seat.desk ≡ desk

-- ---- the answers together

-- each outcome is what the worker of its call has at its index
abbrev pub AreGathered : (ℕ → List Outcome) → ℕ → ℕ → List Outcome → Type 0
AreGathered outs_of count many outs = (at : ℕ) → at < many → out_at outs at ≡ out_at (outs_of (at % count)) at

-- each outcome is what the rules say of its call by what the provider of the call's worker says
abbrev pub AreSaid : Basis → (ℕ → Provided) → ℕ → List ReadyCall → List Outcome → Type 0
AreSaid on by count calls outs = (at : ℕ) (call : ReadyCall) → slice_get calls at ≡ Some call
    → OutcomeSays on (by (at % count)) call (out_at outs at)
