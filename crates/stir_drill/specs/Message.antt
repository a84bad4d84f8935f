-- The message of a call of the drill, the PASSporT that it carries, and what is signed. This is this project's own
-- rule, in the terms of RFC 3261, section 7, RFC 8224, section 4, RFC 8225, sections 4, 5 and 9, and RFC 8588, section
-- 4.
use Rattle.std.specs.Prelude.{ℕ, ◌+◌, ◌/◌, List, [], ◌∷◌, ◌++◌, Some, None, codes, decimal, replicate, if◌then◌else◌}
use Rattle.std.specs.Int.{bytes_high_first}
use Rattle.std.specs.List.{flat_map}
use Rattle.hex.specs.Hex.{encode_lower}
use Rattle.passport_json.specs.Deterministic.{Det}
use Rattle.passport_json.specs.Passport.{Header, Payload, PassportView}
use Rattle.passport_json.specs.Signing.{Signing}
use Rattle.passport_json.specs.Spelled.{full_text}
use Rattle.stir_drill.specs.Change.{calling_in, has_identity, issued_in}
use Rattle.stir_drill.specs.declared.drawn.Drawn.{Drawn}

-- when the call of a number comes, in Unix seconds: sixteen calls a second
abbrev pub moment_of : ℕ → ℕ
moment_of number = 1443208345 + number / 16

-- ---- the PASSporT

-- the URI of the certificates of all calls
abbrev pub drill_x5u : List ℕ
drill_x5u = codes "https://cert.example.org/drill.cer"

abbrev pub calling_text : Drawn → List ℕ
calling_text call = decimal (calling_in call.change call.line)

-- the identifier of the call, a UUID that ends with its number in twelve hex digits
abbrev pub origid_of : ℕ → List ℕ
origid_of number = codes "00000000-0000-4000-8000-" ++ encode_lower (bytes_high_first 6 number)

-- the PASSporT of type `shaken` (RFC 8588, section 4) that was issued at a moment, from a calling number, with an
-- identifier of the call
abbrev pub passport_with : ℕ → List ℕ → List ℕ → PassportView
passport_with iat orig origid = record {
  ppt = Some (codes "shaken");
  x5u = drill_x5u;
  attest = Some (codes "A");
  dest = codes "12125551213" ∷ [];
  div = None;
  iat = iat;
  orig = orig;
  origid = Some origid;
}

abbrev pub passport_of : Drawn → PassportView
passport_of call =
    passport_with (issued_in call.change (moment_of call.number)) (calling_text call) (origid_of call.number)

-- the text that is signed for it
abbrev pub signing_of : Drawn → List ℕ
signing_of call = Signing (Det (Header (passport_of call))) (Det (Payload (passport_of call)))

-- the signature, which isn't a real one: the number of the call in eight bytes, the highest first, and 56 zero bytes
abbrev pub signature_of : ℕ → List ℕ
signature_of number = bytes_high_first 8 number ++ replicate 56 0

-- the value of the Identity header field: the token, the URI, the algorithm and the type
abbrev pub identity_of : Drawn → List ℕ
identity_of call = full_text (signing_of call) (signature_of call.number)
    ++ codes ";info=<https://cert.example.org/drill.cer>;alg=ES256;ppt=\"shaken\""

-- ---- the message

pub record Field : Type 0 where
  pub name : List ℕ
  pub value : List ℕ

-- the name, a colon, a space, the value, CR and LF
abbrev pub field_line : Field → List ℕ
field_line field = field.name ++ 58 ∷ 32 ∷ (field.value ++ 13 ∷ 10 ∷ [])

-- a message without a body: the start line, a line for each field, and an empty line
abbrev pub head_text : List ℕ → List Field → List ℕ
head_text start fields = start ++ 13 ∷ 10 ∷ (flat_map field_line fields ++ 13 ∷ 10 ∷ [])

abbrev pub from_value : List ℕ → List ℕ
from_value calling = codes "<sip:+" ++ calling ++ codes "@example.org>;tag=1"

abbrev pub identity_field : List ℕ → Field
identity_field value = record { name = codes "Identity"; value = value }

abbrev pub identity_fields : Drawn → List Field
identity_fields call = if has_identity call.change then identity_field (identity_of call) ∷ [] else []

-- the line of this field, if there is one
abbrev pub identity_line : Drawn → List ℕ
identity_line call = flat_map field_line (identity_fields call)

-- the fields of an INVITE from this number to 12125551213, with its Identity header field, if it has one
abbrev pub fields_with : List ℕ → List Field → List Field
fields_with calling identity =
    record { name = codes "Via"; value = codes "SIP/2.0/UDP host.example.org;branch=z9hG4bK1" }
    ∷ record { name = codes "Max-Forwards"; value = codes "70" }
    ∷ record { name = codes "From"; value = from_value calling }
    ∷ record { name = codes "To"; value = codes "<sip:+12125551213@example.net>" }
    ∷ record { name = codes "Call-ID"; value = codes "1@example.org" }
    ∷ record { name = codes "CSeq"; value = codes "1 INVITE" }
    ∷ (identity ++ record { name = codes "Content-Length"; value = codes "0" } ∷ [])

-- the message of a call that repeats none
abbrev pub message_of : Drawn → List ℕ
message_of call = head_text (codes "INVITE sip:+12125551213@example.net SIP/2.0")
    (fields_with (calling_text call) (identity_fields call))
