-- What a PASSporT says by its header and payload (RFC 8225, sections 4 and 5; RFC 8588, section 4; RFC 8946, section
-- 4), for the type and the certificate's URI that its Identity header field has (RFC 8224, section 4).
use Rattle.std.specs.Prelude.{◌≡◌, ℕ, List, length, Option, codes}
use Rattle.serde_json.specs.Data.{Data}
use Rattle.serde_json.specs.Find.{get}
use Rattle.passport_json.specs.IssuedAt.{IsIssuedAt}
use Rattle.passport_json.specs.Passport.{text_where}
use Rattle.passport_claims.specs.HasKind.{HasKind}
use Rattle.passport_claims.specs.Kind.{ppt_of}
use Rattle.passport_claims.specs.Members.{HasText, HasNumber, HasNumbers}
use Rattle.passport_claims.specs.Passport.{ClaimsView, IsCalledCount}

-- header and payload are those of a PASSporT that says this
pub record Claims (header payload : Data) (ppt : Option (List ℕ)) (info : List ℕ) (claims : ClaimsView) : Type 0 where
  -- the header: `typ`, `alg`, the field's type and the field's URI
  pub typ : HasText (codes "typ") (codes "passport") header
  pub alg : HasText (codes "alg") (codes "ES256") header
  pub same_ppt : get (codes "ppt") header ≡ text_where ppt
  pub same_x5u : HasText (codes "x5u") info header
  -- the payload: when it was issued, the calling number, the called numbers, and what its type adds
  pub iat : IsIssuedAt payload claims.iat
  pub orig : HasNumber (codes "orig") payload claims.orig
  pub dest : HasNumbers payload claims.dest
  pub called : IsCalledCount ppt (length claims.dest)
  pub kind : HasKind payload claims.kind
  -- what is kept of the field
  pub kept_ppt : ppt_of claims.kind ≡ ppt
  pub kept_x5u : claims.x5u ≡ info
