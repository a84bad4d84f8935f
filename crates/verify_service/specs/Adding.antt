-- The calls of a round that are valid are kept in the past.
use Rattle.std.specs.Prelude.{◌≡◌, ◌≢◌, ℕ, zero, suc, ◌+◌, ◌<◌, Bool, true, false, List, Some, None}
use Rattle.std.specs.List.{slice_get}
use Rattle.replay_desk.specs.Past.{PastView, found}
use Rattle.state_text.specs.declared.kept.Kept.{Kept as Passing}
use Rattle.verify_service.specs.Carrying.{one_if, out_at}
use Rattle.verify_service.specs.Ready.{is_passed, ticket_in}
use Rattle.verify_service.specs.Screening.{last_in}
use Rattle.verify_service.specs.declared.outcome.Outcome.{Outcome}
use Rattle.verify_service.specs.declared.outcome.Outcome.TheVariants.{Valid, Refused, Replay, Unread, Unasked}
use Rattle.verify_service.specs.declared.screening.ReadyCall.{ReadyCall}

abbrev pub is_valid : Outcome → Bool
is_valid Valid = true
is_valid (Refused refused) = false
is_valid (Replay winner) = false
is_valid (Unread bad) = false
is_valid (Unasked bad) = false

-- how many calls below an index are valid
abbrev pub valid_upto : List Outcome → ℕ → ℕ
valid_upto outs zero = 0
valid_upto outs (suc n) = one_if (is_valid (out_at outs n)) + valid_upto outs n

-- what a valid call is kept as
abbrev pub kept_as : ReadyCall → Passing
kept_as call = record { call = call.number; last = last_in call.screening }

-- The rules of the call refuse no valid call, the past hasn't its ticket, and no two valid calls have one.
pub record IsOnceValid (past : PastView) (calls : List ReadyCall) (outs : List Outcome) : Type 0 where
  pub passed : (at : ℕ) (call : ReadyCall) → slice_get calls at ≡ Some call → out_at outs at ≡ Valid
      → is_passed call.screening ≡ true
  pub free : (at : ℕ) (call : ReadyCall) → slice_get calls at ≡ Some call → out_at outs at ≡ Valid
      → found past (ticket_in call.screening) ≡ None
  pub once : (at other : ℕ) (call second : ReadyCall) → slice_get calls at ≡ Some call
      → slice_get calls other ≡ Some second → out_at outs at ≡ Valid → out_at outs other ≡ Valid
      → ticket_in call.screening ≡ ticket_in second.screening → at ≡ other

-- This call is kept, and what was kept for other tickets stays.
pub record AddsCall (call : ReadyCall) (past next : PastView) : Type 0 where
  pub added : found next (ticket_in call.screening) ≡ Some (kept_as call)
  pub others : (ticket : List ℕ) → ticket ≢ ticket_in call.screening → found next ticket ≡ found past ticket

-- the call is kept if it is valid
abbrev pub AddsOne : ReadyCall → Outcome → PastView → PastView → Type 0
AddsOne call Valid past next = AddsCall call past next
AddsOne call (Refused refused) past next = next ≡ past
AddsOne call (Replay winner) past next = next ≡ past
AddsOne call (Unread bad) past next = next ≡ past
AddsOne call (Unasked bad) past next = next ≡ past

-- The valid calls below an index are kept, and what was kept for other tickets stays.
pub record AddedUpto (past next : PastView) (calls : List ReadyCall) (outs : List Outcome) (upto : ℕ) : Type 0 where
  pub valid : (at : ℕ) (call : ReadyCall) → slice_get calls at ≡ Some call → at < upto → out_at outs at ≡ Valid
      → found next (ticket_in call.screening) ≡ Some (kept_as call)
  pub others : (ticket : List ℕ) → ((at : ℕ) (call : ReadyCall) → slice_get calls at ≡ Some call → at < upto
      → out_at outs at ≡ Valid → ticket_in call.screening ≢ ticket) → found next ticket ≡ found past ticket

-- All valid calls are kept, and what was kept for other tickets stays.
pub record IsAdded (past next : PastView) (calls : List ReadyCall) (outs : List Outcome) : Type 0 where
  pub valid : (at : ℕ) (call : ReadyCall) → slice_get calls at ≡ Some call → out_at outs at ≡ Valid
      → found next (ticket_in call.screening) ≡ Some (kept_as call)
  pub others : (ticket : List ℕ) → ((at : ℕ) (call : ReadyCall) → slice_get calls at ≡ Some call
      → out_at outs at ≡ Valid → ticket_in call.screening ≢ ticket) → found next ticket ≡ found past ticket
