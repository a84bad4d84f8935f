-- What the type of a PASSporT adds to its claims (RFC 8588, sections 4 and 5; RFC 8946, section 4.1): which claims the
-- payload has, what is read of them, and why they are refused. The faults and their order are this project's own.
use Rattle.std.specs.Prelude.{◌≡◌, ℕ, List, Option, Some, Result, Ok, ⊤, option_and_then, codes, if◌then◌else◌}
use Rattle.serde_json.specs.Data.{Data}
use Rattle.lists.specs.Steps.{◌>>=◌}
use Rattle.passport_claims.specs.Kind.{attest_of, attest_text}
use Rattle.passport_claims.specs.Members.{HasNumber, HasText, number_in, text_in}
use Rattle.passport_claims.specs.Origid.{IsOrigid, origid_of}
use Rattle.passport_claims.specs.Passport.{is_text}
use Rattle.passport_claims.specs.Reading.{or_fault}
use Rattle.passport_claims.specs.declared.fault.ClaimFault.{ClaimFault}
use Rattle.passport_claims.specs.declared.fault.ClaimFault.TheVariants as faults
use Rattle.passport_claims.specs.declared.kind.Attest.{Attest}
use Rattle.passport_claims.specs.declared.kind.Kind.{Kind}
use Rattle.passport_claims.specs.declared.kind.Kind.TheVariants as kinds

-- the payload has the claims of this type: attestation and identifier of the call for `shaken`, the diverted number for
-- `div`
abbrev pub HasKind : Data → Kind → Type 0
HasKind payload kinds.Base = ⊤
HasKind payload (kinds.Shaken level origid) =
    HasText (codes "attest") (attest_text level) payload × HasText (codes "origid") origid payload × IsOrigid origid
HasKind payload (kinds.Div number) = HasNumber (codes "div") payload number

-- the first of the type's own claims that is broken
pub data IsTypeRefused (payload : Data) (ppt : Option (List ℕ)) (fault : ClaimFault) : Type 0 where
  -- Attest: for `shaken`, `attest` isn't A, B or C
  wrong_attest : ppt ≡ Some (codes "shaken") → ((level : Attest) → HasText (codes "attest") (attest_text level) payload
      → ⊥) → fault ≡ faults.Attest → IsTypeRefused payload ppt fault
  -- Origid: for `shaken`, `origid` is no UUID in 36 characters
  wrong_origid : ppt ≡ Some (codes "shaken") → (level : Attest) → HasText (codes "attest") (attest_text level) payload
      → ((text : List ℕ) → HasText (codes "origid") text payload → IsOrigid text → ⊥) → fault ≡ faults.Origid
      → IsTypeRefused payload ppt fault
  -- Div: for `div`, `div` is no number
  wrong_div : ppt ≡ Some (codes "div") → ((number : List ℕ) → HasNumber (codes "div") payload number → ⊥)
      → fault ≡ faults.Div → IsTypeRefused payload ppt fault

-- ---- the same as functions

-- attestation and identifier of the call
abbrev pub read_shaken : Data → Result Kind ClaimFault
read_shaken payload =
    or_fault faults.Attest (option_and_then attest_of (text_in (codes "attest") payload)) >>=
    (λ level. or_fault faults.Origid (option_and_then origid_of (text_in (codes "origid") payload)) >>=
    (λ origid. Ok (kinds.Shaken level origid)))

-- the diverted number
abbrev pub read_div : Data → Result Kind ClaimFault
read_div payload = or_fault faults.Div (number_in (codes "div") payload) >>= (λ number. Ok (kinds.Div number))

-- what the field's type adds
abbrev pub checked_kind : Option (List ℕ) → Data → Result Kind ClaimFault
checked_kind ppt payload =
    if is_text (codes "shaken") ppt then read_shaken payload
    else if is_text (codes "div") ppt then read_div payload
    else Ok kinds.Base
