-- What is signed of a PASSporT (RFC 8225, section 9; RFC 7515, section 2): its deterministic header and payload; and
-- that it is read again with any signature, in the full form and in the compact one (RFC 8225, section 7).
use Rattle.std.specs.Prelude.{◌≡◌, ℕ, List, length, Some, Ok, IsTrue, IsUtf8}
use Rattle.base64.specs.GeneralPurpose.{IsBytes}
use Rattle.passport_json.specs.Compact.{CallView, base_of}
use Rattle.passport_json.specs.Deterministic.{Det}
use Rattle.passport_json.specs.Passport.{Header, Payload}
use Rattle.passport_json.specs.Signing.{Signing}
use Rattle.passport_json.specs.Spelled.{IsSignature, compact_text, full_text, is_token_byte}
use Rattle.passport_json.specs.Token.{TokenText, read_token}
use Rattle.passport_json.specs.View.{TokenView}
use Rattle.serde_json.specs.Data.{Data}
use Rattle.serde_json.specs.Read.{read}
use Rattle.text_grammar.specs.Grammar.{Run}
use Rattle.text_grammar.specs.Uri.{is_uri}
use Rattle.passport_claims.specs.Claims.{Claims}
use Rattle.passport_claims.specs.Kind.{ppt_of}
use Rattle.passport_claims.specs.Passport.{ClaimsView, members_of}
use Rattle.passport_claims.specs.Read.{read_claims}

-- its header and its payload, as JSON and as texts
abbrev pub header_of : ClaimsView → List ℕ
header_of claims = Det (Header (members_of claims))

abbrev pub payload_of : ClaimsView → List ℕ
payload_of claims = Det (Payload (members_of claims))

-- the text that is signed
abbrev pub signing_of : ClaimsView → List ℕ
signing_of claims = Signing (header_of claims) (payload_of claims)

-- The text is, for this call, a token of the PASSporT with this signature: it is read as a token, and the token's
-- claims as the PASSporT's.
pub record IsTokenOf (text : List ℕ) (call : CallView) (claims : ClaimsView) (signature : List ℕ) : Type 0 where
  pub token : TokenView
  pub is_token : TokenText text call token
  pub read_as : read_token call text ≡ Ok token
  pub signed : token.signing ≡ signing_of claims
  pub by : token.signature ≡ signature
  pub says : Claims token.header token.payload (ppt_of claims.kind) claims.x5u claims
  pub said : read_claims token.header token.payload (ppt_of claims.kind) claims.x5u ≡ Ok claims

-- What is signed of the PASSporT is, with any signature, a token of it: in its full form for each call, and in its
-- compact form for a call that gives what the PASSporT says. The full form can be in an Identity header field if one
-- number is called.
pub record IsSignable (claims : ClaimsView) : Type 0 where
  pub full : (signature : List ℕ) (call : CallView) → IsSignature signature
      → IsTokenOf (full_text (signing_of claims) signature) call claims signature
  pub compact : (signature : List ℕ) (call : CallView) → IsSignature signature → base_of call ≡ Some (members_of claims)
      → IsTokenOf (compact_text signature) call claims signature
  pub fits : (signature : List ℕ) → IsSignature signature → IsTrue (is_uri claims.x5u) → length claims.dest ≡ 1
      → Run is_token_byte 8192 (full_text (signing_of claims) signature)

-- the text is UTF-8, and JSON of this value
pub record IsTextOf (text : List ℕ) (value : Data) : Type 0 where
  pub bytes : IsBytes text
  pub utf8 : IsUtf8 text
  pub read_as : read text ≡ Some value
