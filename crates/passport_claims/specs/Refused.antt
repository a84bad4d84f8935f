-- Why header and payload are not those of a PASSporT, for the type and the certificate's URI that its Identity header
-- field has: the claims in their order, each in the words of its standard (RFC 8225, sections 4 and 5; RFC 8588,
-- sections 4 and 5; RFC 8946, section 4.1). The faults and their order are this project's own.
use Rattle.std.specs.Prelude.{◌≡◌, ℕ, List, length, Option, codes}
use Rattle.serde_json.specs.Data.{Data}
use Rattle.serde_json.specs.Find.{get}
use Rattle.passport_json.specs.IssuedAt.{IsIssuedAt}
use Rattle.passport_json.specs.Passport.{text_where}
use Rattle.passport_claims.specs.HasKind.{IsTypeRefused}
use Rattle.passport_claims.specs.Members.{HasText, HasNumber, HasNumbers}
use Rattle.passport_claims.specs.Passport.{IsCalledCount}
use Rattle.passport_claims.specs.declared.fault.ClaimFault.{ClaimFault}
use Rattle.passport_claims.specs.declared.fault.ClaimFault.TheVariants as faults

-- ---- what is right before it

-- the header is that of a PASSporT signed by ES256 (RFC 8225, section 4)
pub record IsSigned256 (header : Data) : Type 0 where
  pub typ : HasText (codes "typ") (codes "passport") header
  pub alg : HasText (codes "alg") (codes "ES256") header

-- and it has the field's type, or none if the field has none
pub record IsOfFieldType (header : Data) (ppt : Option (List ℕ)) : Type 0 where
  pub before : IsSigned256 header
  pub same_ppt : get (codes "ppt") header ≡ text_where ppt

-- and the field's URI: the header is right
pub record HasHeader (header : Data) (ppt : Option (List ℕ)) (info : List ℕ) : Type 0 where
  pub before : IsOfFieldType header ppt
  pub same_x5u : HasText (codes "x5u") info header

-- and the payload has when it was issued
pub record HasTime (header payload : Data) (ppt : Option (List ℕ)) (info : List ℕ) : Type 0 where
  pub iat : ℕ
  pub before : HasHeader header ppt info
  pub issued : IsIssuedAt payload iat

-- and the calling number
pub record HasCalling (header payload : Data) (ppt : Option (List ℕ)) (info : List ℕ) : Type 0 where
  pub orig : List ℕ
  pub before : HasTime header payload ppt info
  pub calling : HasNumber (codes "orig") payload orig

-- and the called numbers, as many as the type allows
pub record HasCalled (header payload : Data) (ppt : Option (List ℕ)) (info : List ℕ) : Type 0 where
  pub dest : List (List ℕ)
  pub before : HasCalling header payload ppt info
  pub called : HasNumbers payload dest
  pub count : IsCalledCount ppt (length dest)

-- ---- the first that is wrong

-- the first claim that is broken
pub data Refused (header payload : Data) (ppt : Option (List ℕ)) (info : List ℕ) (fault : ClaimFault) : Type 0 where
  -- Kind: `typ` isn't the text `passport`
  wrong_typ : (HasText (codes "typ") (codes "passport") header → ⊥) → fault ≡ faults.Kind
      → Refused header payload ppt info fault
  -- Alg: `alg` isn't the text `ES256`
  wrong_alg : HasText (codes "typ") (codes "passport") header → (HasText (codes "alg") (codes "ES256") header → ⊥)
      → fault ≡ faults.Alg → Refused header payload ppt info fault
  -- Ppt: `ppt` isn't the field's type, or is there though the field has none
  wrong_ppt : IsSigned256 header → (get (codes "ppt") header ≡ text_where ppt → ⊥) → fault ≡ faults.Ppt
      → Refused header payload ppt info fault
  -- X5u: `x5u` isn't the field's URI, byte for byte
  wrong_x5u : IsOfFieldType header ppt → (HasText (codes "x5u") info header → ⊥) → fault ≡ faults.X5u
      → Refused header payload ppt info fault
  -- Iat: `iat` is no time
  wrong_iat : HasHeader header ppt info → ((seconds : ℕ) → IsIssuedAt payload seconds → ⊥) → fault ≡ faults.Iat
      → Refused header payload ppt info fault
  -- Orig: `orig` is no number
  wrong_orig : HasTime header payload ppt info → ((number : List ℕ) → HasNumber (codes "orig") payload number → ⊥)
      → fault ≡ faults.Orig → Refused header payload ppt info fault
  -- Dest: `dest` isn't 1 to 32 numbers, or for `div` isn't one
  wrong_dest : HasCalling header payload ppt info → ((numbers : List (List ℕ)) → HasNumbers payload numbers
      → IsCalledCount ppt (length numbers) → ⊥) → fault ≡ faults.Dest → Refused header payload ppt info fault
  -- and those of the type's own claims
  wrong_type : HasCalled header payload ppt info → IsTypeRefused payload ppt fault
      → Refused header payload ppt info fault
