-- What the rules of the call say of a call, as a round keeps it.
use Rattle.std.specs.Prelude.{◌≡◌, ◌<◌, ◌≤◌, ⊤, ℕ, Bool, true, false, List, [], length, slice_index_or, Ok, Err}
use Rattle.call_log.specs.Entry.{Entry}
use Rattle.verify_rules.specs.Call.{Call, Reading}
use Rattle.verify_rules.specs.Rules.{early_rules}
use Rattle.verify_rules.specs.Screened.{IsScreenedBy}
use Rattle.verify_rules.specs.declared.refusal.ScreenFault.TheVariants as faults
use Rattle.verify_rules.specs.declared.settings.Settings.{Settings}
use Rattle.verify_service.specs.Judging.{call_in}
use Rattle.verify_service.specs.declared.screening.ReadyCall.{ReadyCall}
use Rattle.verify_service.specs.declared.screening.Screening.{Screening}
use Rattle.verify_service.specs.declared.screening.Screening.TheVariants.{Open, Refused, Passed}

-- it isn't known, or it is what the rules of the call say of the call
abbrev pub IsScreening : Call → Screening → Type 0
IsScreening call Open = ⊤
IsScreening call (Refused refused) = IsScreenedBy early_rules call (Err (faults.Refused refused))
IsScreening call (Passed screened) = IsScreenedBy early_rules call (Ok screened)

-- its PASSporTs, in the order in which it went, if the rules of the call don't refuse it
abbrev pub readings_in : Screening → List Reading
readings_in Open = []
readings_in (Refused refused) = []
readings_in (Passed screened) = screened.readings

-- the last second at which its last PASSporT is fresh
abbrev pub last_in : Screening → ℕ
last_in Open = 0
last_in (Refused refused) = 0
last_in (Passed screened) = screened.last

-- this call of the log is screened into its place
pub record Screens (settings : Settings) (entry : Entry) (place : ReadyCall) : Type 0 where
  pub number : place.number ≡ entry.number
  pub moment : place.moment ≡ entry.moment
  pub screening : IsScreening (call_in settings entry) place.screening
  -- a call has at most nine PASSporTs
  pub few : length (readings_in place.screening) ≤ 9
  -- the last of them is fresh until a day after the year 9999 at most
  pub last : last_in place.screening ≤ 253402387199

-- the same of the call at this index
pub record ScreensAt (settings : Settings) (entries : List Entry) (at : ℕ) (place : ReadyCall) : Type 0 where
  pub screens : (d : Entry) → at < length entries → Screens settings (slice_index_or entries at d) place

-- ---- a round whose calls are all screened

abbrev pub is_open : Screening → Bool
is_open Open = true
is_open (Refused refused) = false
is_open (Passed screened) = false

-- it is this call of the log, screened
pub record IsReady (settings : Settings) (entry : Entry) (call : ReadyCall) : Type 0 where
  pub number : call.number ≡ entry.number
  pub moment : call.moment ≡ entry.moment
  pub screening : IsScreening (call_in settings entry) call.screening
  pub known : is_open call.screening ≡ false
  pub few : length (readings_in call.screening) ≤ 9
  pub last : last_in call.screening ≤ 253402387199
