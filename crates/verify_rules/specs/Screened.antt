-- What comes of a call by the rules of the call.
use Rattle.std.specs.Prelude.{◌≡◌, ⊤, ℕ, ◌+◌, ◌-◌, ◌<◌, ◌≤◌, List, ◌++◌, length, take, slice_index, Option, Some, None}
use Rattle.std.specs.Prelude.{Result, Ok, Err}
use Rattle.std.specs.List.{slice_get}
use Rattle.std.specs.Option.{option_map}
use Rattle.passport_claims.specs.Links.{IsOneOf}
use Rattle.verify_rules.specs.Call.{Call, Reading, in_call_order, reading}
use Rattle.verify_rules.specs.Rules.{HoldAll, IsFirst, Rule, first}
use Rattle.verify_rules.specs.declared.judged_passport.JudgedPassport.{JudgedPassport}
use Rattle.verify_rules.specs.declared.refusal.ScreenFault.{ScreenFault}
use Rattle.verify_rules.specs.declared.refusal.ScreenFault.TheVariants.{Refused, Memory}
use Rattle.verify_rules.specs.declared.settings.Settings.{Settings}

-- the judged PASSporTs in call order, and the last second at which the last of them is fresh
pub record ScreenedView : Type 0 where
  pub readings : List Reading
  pub last : ℕ

abbrev pub field_in : Reading → ℕ
field_in one = one.mark.field

abbrev pub digest_in : Reading → List ℕ
digest_in one = one.mark.digest

abbrev pub signature_in : Reading → List ℕ
signature_in one = one.mark.signature

abbrev pub last_of : List Reading → Option Reading
last_of readings = slice_get readings (length readings - 1)

abbrev pub iat_or_none : Option Reading → ℕ
iat_or_none None = 0
iat_or_none (Some one) = one.passport.iat

-- PASSporTs in call order, with the last one's iat plus the seconds for which it is fresh
unfoldable pub screened_by : Settings → List Reading → ScreenedView
screened_by settings readings = record { readings = readings; last = iat_or_none (last_of readings) + settings.past }

abbrev pub screened_of : Call → ScreenedView
screened_of call = screened_by call.settings (in_call_order call)

-- the ticket by which a call is known again: the digest of its last PASSporT
abbrev pub ticket_of : Call → Option (List ℕ)
ticket_of call = option_map digest_in (last_of (in_call_order call))

-- the last second at which a call is fresh: the iat of its last PASSporT, and for how long that is fresh
abbrev pub last_of_call : Call → ℕ
last_of_call call = iat_or_none (last_of (in_call_order call)) + call.settings.past

-- ---- how they are kept

-- a judged PASSporT as it is kept
abbrev pub judged_seen : JudgedPassport → Reading
judged_seen one =
    reading one.claims one.signed (record { field = one.field; digest = one.digest; signature = one.signature })

-- an order of so many links after the originating PASSporT: each of its numbers is that of a link
pub record IsTurned (readings : List Reading) (count : ℕ) (turn : List ℕ) : Type 0 where
  pub all : length readings ≡ count + 1
  pub few : count ≤ 8
  pub turns : length (take count turn) ≡ count
  pub each : (at : ℕ) → at < count → IsOneOf count (slice_index turn at)

-- ---- answers

-- screened if none of these rules is broken; else refused by the first that is. Out of memory may come in any case
abbrev pub IsScreenedBy : List Rule → Call → Result ScreenedView ScreenFault → Type 0
IsScreenedBy rules call (Ok screened) = (first rules call ≡ None) × (screened ≡ screened_of call)
IsScreenedBy rules call (Err (Refused refused)) = first rules call ≡ Some refused
IsScreenedBy rules call (Err Memory) = ⊤

-- screened if each of these rules holds; else refused by one, and those before it hold
abbrev pub IsLeast : List Rule → Call → Result ScreenedView ScreenFault → Type 0
IsLeast rules call (Ok screened) = HoldAll rules call
IsLeast rules call (Err (Refused refused)) = IsFirst rules call refused
IsLeast rules call (Err Memory) = ⊤

-- whatever rules come after these: screened is left to those, and refused is refused
abbrev pub IsFirstBefore : List Rule → List Rule → Call → Result ScreenedView ScreenFault → Type 0
IsFirstBefore rules late call (Ok screened) = first (rules ++ late) call ≡ first late call
IsFirstBefore rules late call (Err (Refused refused)) = first (rules ++ late) call ≡ Some refused
IsFirstBefore rules late call (Err Memory) = ⊤
