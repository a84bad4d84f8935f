-- The claims tried in their order, each with its fault.
use Rattle.std.specs.Prelude.{ℕ, Bool, true, false, not, List, Option, Some, None, Result, Ok, Err, codes}
use Rattle.std.specs.Prelude.{if◌then◌else◌}
use Rattle.serde_json.specs.Data.{Data}
use Rattle.serde_json.specs.Find.{get}
use Rattle.passport_json.specs.IssuedAt.{issued_at}
use Rattle.passport_claims.specs.HasKind.{checked_kind}
use Rattle.passport_claims.specs.Members.{called_in, number_in, text_in}
use Rattle.passport_claims.specs.Passport.{ClaimsView, is_text, most_called}
use Rattle.passport_claims.specs.Reading.{or_fault}
use Rattle.lists.specs.Steps.{◌>>=◌}
use Rattle.passport_claims.specs.declared.fault.ClaimFault.{ClaimFault}
use Rattle.passport_claims.specs.declared.fault.ClaimFault.TheVariants as faults

-- a member is this text
abbrev pub has_text : List ℕ → List ℕ → Data → Bool
has_text name text value = is_text text (text_in name value)

abbrev pub is_absent : Option Data → Bool
is_absent None = true
is_absent (Some value) = false

-- a member is the text if there is one, and else absent
abbrev pub has_text_where : List ℕ → Option (List ℕ) → Data → Bool
has_text_where name None value = is_absent (get name value)
has_text_where name (Some text) value = has_text name text value

-- the certificate's URI, if the header's four members are as they have to be
abbrev pub checked_header : Data → Option (List ℕ) → List ℕ → Result (List ℕ) ClaimFault
checked_header header ppt info =
    if not (has_text (codes "typ") (codes "passport") header) then Err faults.Kind
    else if not (has_text (codes "alg") (codes "ES256") header) then Err faults.Alg
    else if not (has_text_where (codes "ppt") ppt header) then Err faults.Ppt
    else if not (has_text (codes "x5u") info header) then Err faults.X5u
    else Ok info

-- what header and payload say, or the first claim that is broken
unfoldable pub read_claims : Data → Data → Option (List ℕ) → List ℕ → Result ClaimsView ClaimFault
read_claims header payload ppt info = do
  x5u ← checked_header header ppt info
  iat ← or_fault faults.Iat (issued_at payload)
  orig ← or_fault faults.Orig (number_in (codes "orig") payload)
  dest ← or_fault faults.Dest (called_in (most_called ppt) payload)
  kind ← checked_kind ppt payload
  Ok (record { kind = kind; x5u = x5u; iat = iat; orig = orig; dest = dest })
