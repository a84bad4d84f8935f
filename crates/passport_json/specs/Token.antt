-- The text of a PASSporT (RFC 8225, sections 3 and 7; RFC 7515, section 7.1; RFC 4648, section 5 without padding): in
-- its full form header, payload and signature in base64url, with dots between; in its compact form the signature alone.
use Rattle.std.specs.Prelude.{◌≡◌, ◌≢◌, ◌⊎◌, ℕ, ◌==◌, false, List, [], length, Option, Some, None, Result, Ok, Err}
use Rattle.std.specs.Prelude.{codes, if◌then◌else◌}
use Rattle.std.specs.Bool.{nat_eq}
use Rattle.std.specs.List.{starts_with}
use Rattle.base64.specs.declared.decode.DecodeError.{DecodeError}
use Rattle.base64.specs.Engines.{url_safe_no_pad}
use Rattle.base64.specs.GeneralPurpose.{decode_of}
use Rattle.serde_json.specs.Data.{Data}
use Rattle.passport_json.specs.declared.fault.TokenFault.{TokenFault}
use Rattle.passport_json.specs.declared.fault.TokenFault.TheVariants.{Parts, Base64, Json, SignatureLength}
use Rattle.passport_json.specs.Base64.{IsBase64}
use Rattle.passport_json.specs.Compact.{CallView, CompactText, checked_base, rebuilt}
use Rattle.passport_json.specs.Object.{IsObjectText, object_of}
use Rattle.passport_json.specs.Parts.{PartTexts, AreParts, parts_of, one_is_empty, signing_of}
use Rattle.lists.specs.Steps.{◌>>=◌}
use Rattle.passport_json.specs.View.{TokenView}

-- the text is a token in its full form, and this is what it holds
pub record FullText (text : List ℕ) (token : TokenView) : Type 0 where
  pub parts : PartTexts
  pub header_bytes : List ℕ
  pub payload_bytes : List ℕ
  pub are_parts : AreParts text parts
  pub has_header : parts.header ≢ []
  pub has_payload : parts.payload ≢ []
  pub header_encoded : IsBase64 parts.header header_bytes
  pub payload_encoded : IsBase64 parts.payload payload_bytes
  pub signature_encoded : IsBase64 parts.signature token.signature
  pub signature_length : length token.signature ≡ 64
  pub header_object : IsObjectText header_bytes token.header
  pub payload_object : IsObjectText payload_bytes token.payload
  pub signing_received : token.signing ≡ signing_of parts
  pub is_full : token.compact ≡ false

-- the text is a token in its full form; or in its compact form, for a call that has all that this form leaves out
abbrev pub TokenText : List ℕ → CallView → TokenView → Type 0
TokenText text call token = FullText text token ⊎ CompactText text call token

-- ---- the checks in their order, each with its fault

abbrev pub whole_parts : Option PartTexts → Result PartTexts TokenFault
whole_parts None = Err Parts
whole_parts (Some parts) = if one_is_empty parts.header parts.payload then Err Parts else Ok parts

-- exactly two dots, and not exactly one of the first two texts empty
abbrev pub checked_parts : List ℕ → Result PartTexts TokenFault
checked_parts text = whole_parts (parts_of text)

abbrev pub or_base64_fault : ℕ → Result (List ℕ) DecodeError → Result (List ℕ) TokenFault
or_base64_fault part (Ok bytes) = Ok bytes
or_base64_fault part (Err error) = Err (Base64 part)

-- the bytes of a part, counted from 1
abbrev pub checked_base64 : ℕ → List ℕ → Result (List ℕ) TokenFault
checked_base64 part text = or_base64_fault part (decode_of url_safe_no_pad text)

-- a signature of 64 bytes
abbrev pub checked_signature : List ℕ → Result (List ℕ) TokenFault
checked_signature bytes = if length bytes == 64 then Ok bytes else Err SignatureLength

-- the 64 bytes that the text of the third part is the encoding of
abbrev pub decoded_signature : List ℕ → Result (List ℕ) TokenFault
decoded_signature text = checked_base64 3 text >>= checked_signature

abbrev pub or_json_fault : ℕ → Option Data → Result Data TokenFault
or_json_fault part None = Err (Json part)
or_json_fault part (Some value) = Ok value

-- the object that a part's bytes are
abbrev pub checked_json : ℕ → List ℕ → Result Data TokenFault
checked_json part bytes = or_json_fault part (object_of bytes)

-- what the text holds, or the first check that it breaks
unfoldable pub read_full : List ℕ → Result TokenView TokenFault
read_full text = do
  parts ← checked_parts text
  header_bytes ← checked_base64 1 parts.header
  payload_bytes ← checked_base64 2 parts.payload
  signature ← decoded_signature parts.signature
  header ← checked_json 1 header_bytes
  payload ← checked_json 2 payload_bytes
  Ok (record { header = header; payload = payload; signing = signing_of parts; signature = signature; compact = false })

-- the same of a text that begins with two dots, whose first two texts are the encoding of no bytes
unfoldable pub read_compact : CallView → List ℕ → Result TokenView TokenFault
read_compact call text = do
  parts ← checked_parts text
  signature ← decoded_signature parts.signature
  passport ← checked_base call
  Ok (rebuilt passport signature)

-- what the text holds for a call, in either form, or the first check that it breaks
unfoldable pub read_token : CallView → List ℕ → Result TokenView TokenFault
read_token call text = if starts_with nat_eq text (codes "..") then read_compact call text else read_full text
