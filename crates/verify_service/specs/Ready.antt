-- A round whose calls are ready to be judged: what they are judged on, and what holds of them and of the seats of its
-- desk (this project's own rule).
use Rattle.std.specs.Prelude.{◌≡◌, ℕ, ◌+◌, ◌<◌, ◌≤◌, Bool, true, false, List, [], ◌∷◌, is_some, unwrap_or, Option, Some}
use Rattle.std.specs.Prelude.{None}
use Rattle.std.specs.List.{slice_get}
use Rattle.std.specs.Option.{option_map}
use Rattle.cert_store.specs.Holding.{Chains}
use Rattle.cert_store.specs.Rules.{Says}
use Rattle.cert_store.specs.declared.world.World.{World as Materials}
use Rattle.replay_desk.specs.Holder.{DeskId, Holder}
use Rattle.live_desk.specs.Lists.{whole}
use Rattle.replay_desk.specs.Past.{PastView}
use Rattle.stir_outside.specs.declared.provider.Provider.{Ghosts as ProviderOf}
use Rattle.verify_rules.specs.Call.{Reading}
use Rattle.verify_rules.specs.Screened.{digest_in, last_of}
use Rattle.verify_service.specs.Kept.{Kept}
use Rattle.verify_service.specs.Needed.{x5us}
use Rattle.verify_service.specs.RightChains.{AreThere}
use Rattle.verify_service.specs.Screening.{is_open, readings_in}
use Rattle.verify_service.specs.declared.ready.Lent.{Lent}
use Rattle.verify_service.specs.declared.screening.ReadyCall.{ReadyCall}
use Rattle.verify_service.specs.declared.screening.Screening.{Screening}
use Rattle.verify_service.specs.declared.screening.Screening.TheVariants.{Open, Refused, Passed}

-- ---- what calls are judged on

-- the chain map, the anchors and the code table; the chains that the service holds and those that the round keeps; and
-- the calls that passed
pub record Basis : Type 0 where
  pub materials : Materials
  pub held : Chains
  pub kept : Kept
  pub past : PastView

abbrev pub basis_of : Lent → Basis
basis_of lent =
    record { materials = lent.materials.now; held = lent.cache.now.entries; kept = lent.kept.now; past = lent.past.now }

-- what a provider of signatures says, how often it was asked, and how often it failed, before and after calls were
-- judged
pub record Provided : Type 0 where
  pub says : Says
  pub asks : ℕ
  pub asks_now : ℕ
  pub faults : ℕ
  pub faults_now : ℕ

abbrev pub provided : {P : Type 0} → ProviderOf P → P → P → Provided
provided provider before now = record {
  says = provider.says before;
  asks = provider.asks before;
  asks_now = provider.asks now;
  faults = provider.faults before;
  faults_now = provider.faults now;
}

-- ---- a call that was screened

-- the rules of the call don't refuse it
abbrev pub is_passed : Screening → Bool
is_passed Open = false
is_passed (Refused refused) = false
is_passed (Passed screened) = true

-- the digest of what was signed as the last of these PASSporTs
abbrev pub ticket_by : List Reading → List ℕ
ticket_by readings = unwrap_or (option_map digest_in (last_of readings)) []

abbrev pub ticket_in : Screening → List ℕ
ticket_in screening = ticket_by (readings_in screening)

-- the class of its ticket
abbrev pub class_in : ReadyCall → ℕ
class_in call = unwrap_or call.class 0

-- ---- a call that is ready

-- It was screened. It has a class exactly if the rules of the call don't refuse it, and one of this desk. Its number
-- leaves room for one more. And each of its chains is held or kept, if a file is listed for it.
pub record CallReady (on : Basis) (desk : DeskId) (call : ReadyCall) : Type 0 where
  pub known : is_open call.screening ≡ false
  pub classed : is_some call.class ≡ is_passed call.screening
  pub class : class_in call < desk.words
  pub number : call.number < 4294967295
  pub there : AreThere on.materials.chains on.held on.kept (x5us (readings_in call.screening))

abbrev pub AreAllReady : Basis → DeskId → List ReadyCall → Type 0
AreAllReady on desk calls = (at : ℕ) (call : ReadyCall) → slice_get calls at ≡ Some call → CallReady on desk call

-- Two calls that the rules of the call don't refuse have one class exactly if they have one ticket.
pub record AreClassed (calls : List ReadyCall) : Type 0 where
  pub one_ticket : (at other : ℕ) (call second : ReadyCall) → slice_get calls at ≡ Some call
      → slice_get calls other ≡ Some second → is_passed call.screening ≡ true → is_passed second.screening ≡ true
      → class_in call ≡ class_in second → ticket_in call.screening ≡ ticket_in second.screening
  pub one_class : (at other : ℕ) (call second : ReadyCall) → slice_get calls at ≡ Some call
      → slice_get calls other ≡ Some second → is_passed call.screening ≡ true → is_passed second.screening ≡ true
      → ticket_in call.screening ≡ ticket_in second.screening → class_in call ≡ class_in second

-- no two calls have one number
abbrev pub AreNumbered : List ReadyCall → Type 0
AreNumbered calls = (at other : ℕ) (call second : ReadyCall) → slice_get calls at ≡ Some call
    → slice_get calls other ≡ Some second → call.number ≡ second.number → at ≡ other

-- There is a class for each call that the rules of the call don't refuse, and room for as many more calls in the past
-- as there are classes.
pub record HasRoom (calls : List ReadyCall) (spare : ℕ) : Type 0 where
  pub classes : ℕ
  pub each : (at : ℕ) (call : ReadyCall) → slice_get calls at ≡ Some call → is_passed call.screening ≡ true
      → class_in call < classes
  pub room : classes ≤ spare

-- ---- the seats

-- how many parts these seats have together
abbrev pub share_of : Option Holder → ℕ
share_of None = 0
share_of (Some seat) = seat.share

abbrev pub shares : List (Option Holder) → ℕ
shares [] = 0
shares (seat ∷ seats) = share_of seat + shares seats

abbrev pub all_shares : List Holder → ℕ
all_shares [] = 0
all_shares (seat ∷ seats) = seat.share + all_shares seats

-- it is a seat of this desk at which nothing was claimed yet
pub record IsFresh (desk : DeskId) (seat : Holder) : Type 0 where
  pub own : seat.desk ≡ desk
  pub no_wins : seat.wins ≡ []
  pub no_losses : seat.losses ≡ []

-- They are fresh seats of this desk, and have all its parts.
pub record HaveSeats (desk : DeskId) (seats : List Holder) : Type 0 where
  pub each : (w : ℕ) (seat : Holder) → slice_get seats w ≡ Some seat → IsFresh desk seat
  pub all : all_shares seats ≡ whole
