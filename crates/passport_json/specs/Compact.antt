-- A PASSporT in its compact form (RFC 8225, section 7; RFC 8224, section 4.1): two dots and a signature; header and
-- payload are built again from the message.
use Rattle.std.specs.Prelude.{◌≡◌, ℕ, true, List, [], ◌∷◌, length, Option, Some, None, Result, Ok, Err}
use Rattle.passport_json.specs.declared.fault.TokenFault.{TokenFault}
use Rattle.passport_json.specs.declared.fault.TokenFault.TheVariants.{Compact}
use Rattle.passport_json.specs.Base64.{IsBase64}
use Rattle.passport_json.specs.Deterministic.{Det}
use Rattle.passport_json.specs.Parts.{AreParts}
use Rattle.passport_json.specs.Passport.{PassportView, Header, Payload}
use Rattle.passport_json.specs.Signing.{Signing}
use Rattle.passport_json.specs.View.{TokenView}

-- what a message and its Identity header field give: the Date, the calling number, the called number, the certificate's
-- URI and the PASSporT type
pub record CallView : Type 0 where
  pub iat : Option ℕ
  pub orig : Option (List ℕ)
  pub dest : Option (List ℕ)
  pub info : List ℕ
  pub ppt : Option (List ℕ)

-- the PASSporT without a type that says this
abbrev pub base : ℕ → List ℕ → List ℕ → List ℕ → PassportView
base iat orig dest info = record {
  ppt = None;
  x5u = info;
  attest = None;
  dest = dest ∷ [];
  div = None;
  iat = iat;
  orig = orig;
  origid = None;
}

abbrev pub base_by : Option ℕ → Option (List ℕ) → Option (List ℕ) → List ℕ → Option (List ℕ) → Option PassportView
base_by (Some iat) (Some orig) (Some dest) info None = Some (base iat orig dest info)
base_by (Some iat) (Some orig) (Some dest) info (Some ppt) = None
base_by (Some iat) (Some orig) None info ppt = None
base_by (Some iat) None dest info ppt = None
base_by None orig dest info ppt = None

-- the base PASSporT of a call, if there are a Date and both numbers, and no PASSporT type
abbrev pub base_of : CallView → Option PassportView
base_of call = base_by call.iat call.orig call.dest call.info call.ppt

-- the token that a PASSporT and its signature are: the deterministic header and payload, and what is signed made of
-- them
abbrev pub rebuilt : PassportView → List ℕ → TokenView
rebuilt passport signature = record {
  header = Header passport;
  payload = Payload passport;
  signing = Signing (Det (Header passport)) (Det (Payload passport));
  signature = signature;
  compact = true;
}

-- the text is two dots and a signature, the call has a base PASSporT, and this is the token of both
pub record CompactText (text : List ℕ) (call : CallView) (token : TokenView) : Type 0 where
  pub signature_text : List ℕ
  pub passport : PassportView
  pub are_parts : AreParts text (record { header = []; payload = []; signature = signature_text })
  pub signature_encoded : IsBase64 signature_text token.signature
  pub signature_length : length token.signature ≡ 64
  pub is_base : base_of call ≡ Some passport
  pub is_rebuilt : token ≡ rebuilt passport token.signature

-- ---- the last check of the compact form

abbrev pub or_compact_fault : Option PassportView → Result PassportView TokenFault
or_compact_fault None = Err Compact
or_compact_fault (Some passport) = Ok passport

-- a Date, both numbers and no PASSporT type
abbrev pub checked_base : CallView → Result PassportView TokenFault
checked_base call = or_compact_fault (base_of call)
