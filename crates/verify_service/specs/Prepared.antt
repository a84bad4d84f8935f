-- What a contract sees of a round that is prepared, and what makes it the newest of a service.
use Rattle.std.specs.Prelude.{◌≡◌, ◌<◌, ◌⊎◌, ◌≤◌, ◌-◌, ℕ, true, false, List, length, map, is_some, Option, Some}
use Rattle.std.specs.List.{slice_get}
use Rattle.call_log.specs.Entry.{Entry}
use Rattle.replay_desk.specs.Holder.{DeskId, Holder}
use Rattle.verify_rules.specs.declared.settings.Settings.{Settings}
use Rattle.verify_service.specs.Judging.{EachPair}
use Rattle.verify_service.specs.Kept.{Kept}
use Rattle.verify_service.specs.Needed.{all_named}
use Rattle.verify_service.specs.Ready.{AreClassed, AreNumbered, Basis, HasRoom, IsFresh, class_in, is_passed}
use Rattle.verify_service.specs.RightChains.{AreThere, FailAtQuestions}
use Rattle.verify_service.specs.Screening.{IsReady, is_open}
use Rattle.verify_service.specs.Service.{ServiceView, materials_of}
use Rattle.verify_service.specs.declared.screening.ReadyCall.{ReadyCall}

-- its calls, with what the rules of the call say of each; the chains that it keeps beside those that the service holds;
-- its desk; and those of its seats that weren't taken out
pub record PreparedView : Type 0 where
  pub calls : List ReadyCall
  pub kept : Kept
  pub desk : DeskId
  pub seats : List Holder

abbrev pub numbers_of : List ReadyCall → List ℕ
numbers_of calls = map (λ call. call.number) calls

abbrev pub classes_of : List ReadyCall → List (Option ℕ)
classes_of calls = map (λ call. call.class) calls

-- it is the class of a call
abbrev pub IsClass : List (Option ℕ) → ℕ → Type 0
IsClass classes class = (at : ℕ) × (slice_get classes at ≡ Some (Some class))

-- The desk has one word for each class, and one if there is no class.
pub record HasWords (desk : DeskId) (classes : List (Option ℕ)) : Type 0 where
  pub each : (class : ℕ) → IsClass classes class → class < desk.words
  pub no_more : (class : ℕ) → class < desk.words
      → IsClass classes class ⊎ ((desk.words ≡ 1) × ((other : ℕ) → IsClass classes other → ⊥))

-- ---- what holds of each

-- A call that was screened has a class of this desk exactly if the rules of the call don't refuse it. Its number leaves
-- room for one more.
pub record HasClass (desk : DeskId) (call : ReadyCall) : Type 0 where
  pub known : is_open call.screening ≡ false
  pub classed : is_some call.class ≡ is_passed call.screening
  pub class : class_in call < desk.words
  pub number : call.number < 4294967295

abbrev pub HaveClass : DeskId → List ReadyCall → Type 0
HaveClass desk calls = (at : ℕ) (call : ReadyCall) → slice_get calls at ≡ Some call → HasClass desk call

-- A seat of this desk at which nothing was claimed yet, with at least 16,777,216 parts.
pub record IsSeat (desk : DeskId) (seat : Holder) : Type 0 where
  pub fresh : IsFresh desk seat
  pub least : 16777216 ≤ seat.share

abbrev pub AreSeats : DeskId → List Holder → Type 0
AreSeats desk seats = (w : ℕ) (seat : Holder) → slice_get seats w ≡ Some seat → IsSeat desk seat

-- It has 1 to 256 calls. Two of them have one class exactly if they have one ticket, and no two have one number.
pub record IsPrepared (calls : List ReadyCall) (kept : Kept) (desk : DeskId) (seats : List Holder) : Type 0 where
  pub some : 1 ≤ length calls
  pub few : length calls ≤ 256
  pub classes : HaveClass desk calls
  pub classed : AreClassed calls
  pub numbered : AreNumbered calls
  pub questions : FailAtQuestions kept
  pub own : AreSeats desk seats

-- ---- the newest of a service

-- each has a number from 1 up to this one
abbrev pub AreUpTo : ℕ → List ReadyCall → Type 0
AreUpTo number calls = (at : ℕ) (call : ReadyCall) → slice_get calls at ≡ Some call
    → (1 ≤ call.number) × (call.number ≤ number)

-- They are calls of a log, screened by these settings, and this is the number of the last, up to which those before it
-- go.
pub record AreScreened (settings : Settings) (number : ℕ) (calls : List ReadyCall) : Type 0 where
  pub entries : List Entry
  pub screened : EachPair (IsReady settings) entries calls
  pub last : slice_get (numbers_of calls) (length calls - 1) ≡ Some number
  pub upto : AreUpTo number calls

-- Its calls were screened by the service's settings, and the last one's number is the service's; each chain that they
-- need is held by the service or kept by the round; the past has room for as many calls as there are classes; and the
-- state wasn't taken since a round was prepared.
pub record IsNewest (service : ServiceView) (prepared : PreparedView) : Type 0 where
  pub calls : AreScreened service.settings service.number prepared.calls
  pub there : AreThere service.chains service.held.entries prepared.kept (all_named prepared.calls)
  pub room : HasRoom prepared.calls service.past.spare
  pub begun : service.begun ≡ true

-- what its calls are judged on
abbrev pub basis_in : ServiceView → PreparedView → Basis
basis_in service prepared =
    record { materials = materials_of service; held = service.held.entries; kept = prepared.kept; past = service.past }
