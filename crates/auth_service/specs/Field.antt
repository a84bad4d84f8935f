-- The Identity header field that is written (RFC 8224, section 4).
use Rattle.std.specs.Prelude.{ℕ, List, Some, codes}
use Rattle.identity_header.specs.Parts.{Parts, parts}
use Rattle.identity_header.specs.Spelling.{spelling}
use Rattle.passport_json.specs.Spelled.{compact_text, full_text}
use Rattle.passport_claims.specs.Kind.{ppt_of}
use Rattle.passport_claims.specs.Passport.{ClaimsView}
use Rattle.passport_claims.specs.Signed.{signing_of}
use Rattle.auth_service.specs.declared.wanted.Shape.{Shape}
use Rattle.auth_service.specs.declared.wanted.Shape.TheVariants as shapes

abbrev pub field_name : List ℕ
field_name = codes "Identity"

-- the token of what was signed and its signature; in the compact form the signature alone
abbrev pub token_by : Shape → List ℕ → List ℕ → List ℕ
token_by (shapes.Full kind) signing signature = full_text signing signature
token_by shapes.Compact signing signature = compact_text signature

-- the token, the URI of the certificates, the algorithm ES256, and the PASSporT's type, if it has one
abbrev pub field_of : Shape → ClaimsView → List ℕ → Parts
field_of shape claims signature =
    parts (token_by shape (signing_of claims) signature) claims.x5u (Some (codes "ES256")) (ppt_of claims.kind)

-- the field's value, as a field is written
abbrev pub value_of : Shape → ClaimsView → List ℕ → List ℕ
value_of shape claims signature = spelling (field_of shape claims signature)
