-- What is signed of a PASSporT is with any signature a token of it.
use Rattle.std.proofs.Common.{◌≡◌, ◌≤◌, ◌+◌, ℕ, List, length, Some, Result, Ok, Err, IfOk, inl, inr, refl, sym, ap, ◌∙◌, subst}
use Rattle.std.specs.Prelude.{IsUtf8}
use Rattle.base64.specs.GeneralPurpose.{IsBytes}
use Rattle.serde_json.specs.Data.{Data, Members, object}
use Rattle.serde_json.specs.Read.{read}
use Rattle.text_grammar.specs.Grammar.{Run}
use Rattle.passport_json.specs.Compact.{CallView, CompactText, base_of, rebuilt}
use Rattle.passport_json.specs.Deterministic.{Det}
use Rattle.passport_json.specs.Passport.{Header, PassportView, Payload}
use Rattle.passport_json.specs.Signing.{Signing}
use Rattle.passport_json.specs.Spelled.{IsSignature, IsSpelled, compact_text, full_text, full_token, is_token_byte}
use Rattle.passport_json.specs.Token.{FullText, TokenText, read_token}
use Rattle.passport_json.specs.View.{TokenView}
use Rattle.passport_claims.specs.Claims.{Claims}
use Rattle.passport_claims.specs.Kind.{ppt_of}
use Rattle.passport_claims.specs.Passport.{ClaimsView, members_of}
use Rattle.passport_claims.specs.Read.{read_claims}
use Rattle.passport_claims.specs.Signed.{IsSignable, IsTextOf, IsTokenOf, header_of, payload_of, signing_of}
use Rattle.passport_claims.proofs.SizeLaws.{texts_short}

-- ---- what the texts of a value are

pub text_of : (text : List ℕ) (value : Data) → text ≡ Det value → IsBytes text → IsUtf8 text → read text ≡ Some value → IsTextOf (Det value) value
text_of text value e bytes utf8 r =
    record { bytes = subst (λ (x : List ℕ). IsBytes x) e bytes; utf8 = subst (λ (x : List ℕ). IsUtf8 x) e utf8; read_as = ap read (sym e) ∙ r }

-- a fact that doesn't depend on the value
pub if_ok : {X E P : Type 0} (answer : Result X E) → P → IfOk answer (λ _. P)
if_ok (Ok x) p = p
if_ok (Err fault) p = tt

spelled : (text : List ℕ) (value : Data) (members : Members) → value ≡ object members → IsTextOf text value → IsSpelled text value
spelled text value members o t = record { bytes = t.bytes; object = record { members = members; utf8 = t.utf8; read_as = t.read_as; is_object = o } }

-- ---- the laws of tokens that are used

abbrev FullLaw : Type 0
FullLaw = (header_text payload_text signature : List ℕ) (header payload : Data) → IsSpelled header_text header → IsSpelled payload_text payload → IsSignature signature
    → FullText (full_text (Signing header_text payload_text) signature) (full_token header payload header_text payload_text signature)

abbrev CompactLaw : Type 0
CompactLaw = (signature : List ℕ) (call : CallView) (passport : PassportView) → IsSignature signature → base_of call ≡ Some passport
    → CompactText (compact_text signature) call (rebuilt passport signature)

abbrev TokenLaw : Type 0
TokenLaw = (text : List ℕ) (call : CallView) (token : TokenView) → TokenText text call token → read_token call text ≡ Ok token

abbrev SizeLaw : Type 0
SizeLaw = (header payload signature : List ℕ) → IsBytes header → IsBytes payload → IsSignature signature → length header + length payload ≤ 6000
    → Run is_token_byte 8192 (full_text (Signing header payload) signature)

-- ---- in either form

-- its texts are read as its header and its payload, and these as its claims
record IsWritten (claims : ClaimsView) : Type 0 where
  header : IsTextOf (header_of claims) (Header (members_of claims))
  payload : IsTextOf (payload_of claims) (Payload (members_of claims))
  says : Claims (Header (members_of claims)) (Payload (members_of claims)) (ppt_of claims.kind) claims.x5u claims
  said : read_claims (Header (members_of claims)) (Payload (members_of claims)) (ppt_of claims.kind) claims.x5u ≡ Ok claims

in_full : FullLaw → TokenLaw → (claims : ClaimsView) → IsWritten claims → (signature : List ℕ) (call : CallView) → IsSignature signature
    → IsTokenOf (full_text (signing_of claims) signature) call claims signature
in_full full again claims w signature call s =
    let token : TokenView = full_token (Header (members_of claims)) (Payload (members_of claims)) (header_of claims) (payload_of claims) signature in
    let t : FullText (full_text (signing_of claims) signature) token =
    full (header_of claims) (payload_of claims) signature (Header (members_of claims)) (Payload (members_of claims))
    (spelled (header_of claims) (Header (members_of claims)) _ refl w.header) (spelled (payload_of claims) (Payload (members_of claims)) _ refl w.payload) s in
    record {
      token = token;
      is_token = inl t;
      read_as = again (full_text (signing_of claims) signature) call token (inl t);
      signed = refl;
      by = refl;
      says = w.says;
      said = w.said;
    }

in_compact : CompactLaw → TokenLaw → (claims : ClaimsView) → IsWritten claims → (signature : List ℕ) (call : CallView) → IsSignature signature
    → base_of call ≡ Some (members_of claims) → IsTokenOf (compact_text signature) call claims signature
in_compact compact again claims w signature call s is =
    let token : TokenView = rebuilt (members_of claims) signature in
    let t : CompactText (compact_text signature) call token = compact signature call (members_of claims) s is in
    record {
      token = token;
      is_token = inr t;
      read_as = again (compact_text signature) call token (inr t);
      signed = refl;
      by = refl;
      says = w.says;
      said = w.said;
    }

signable : FullLaw → CompactLaw → TokenLaw → SizeLaw → (claims : ClaimsView) → IsWritten claims → IsSignable claims
signable full compact again size claims w = record {
  full = in_full full again claims w;
  compact = in_compact compact again claims w;
  fits = λ signature s uri one. size (header_of claims) (payload_of claims) signature w.header.bytes w.payload.bytes s
      (texts_short (Header (members_of claims)) (Payload (members_of claims)) claims w.says uri one);
}

-- ---- as the code has it

written : (header payload : Data) (claims : ClaimsView) → header ≡ Header (members_of claims) → payload ≡ Payload (members_of claims)
    → IsTextOf (Det header) header → IsTextOf (Det payload) payload → Claims header payload (ppt_of claims.kind) claims.x5u claims
    → read_claims header payload (ppt_of claims.kind) claims.x5u ≡ Ok claims → IsWritten claims
written header payload claims h p of_header of_payload says said = record {
  header = subst (λ (x : Data). IsTextOf (Det x) x) h of_header;
  payload = subst (λ (x : Data). IsTextOf (Det x) x) p of_payload;
  says = subst (λ (x : Data). Claims (Header (members_of claims)) x (ppt_of claims.kind) claims.x5u claims) p
      (subst (λ (x : Data). Claims x payload (ppt_of claims.kind) claims.x5u claims) h says);
  said = ap (λ (x : Data). read_claims x (Payload (members_of claims)) (ppt_of claims.kind) claims.x5u) (sym h)
      ∙ ap (λ (x : Data). read_claims header x (ppt_of claims.kind) claims.x5u) (sym p) ∙ said;
}

pub signable_answer : {X E : Type 0} (answer : Result X E) → FullLaw → CompactLaw → TokenLaw → SizeLaw → (header payload : Data) (claims : ClaimsView)
    → header ≡ Header (members_of claims) → payload ≡ Payload (members_of claims) → Claims header payload (ppt_of claims.kind) claims.x5u claims
    → read_claims header payload (ppt_of claims.kind) claims.x5u ≡ Ok claims
    → IfOk answer (λ _. IsTextOf (Det header) header) → IfOk answer (λ _. IsTextOf (Det payload) payload) → IfOk answer (λ _. IsSignable claims)
signable_answer (Ok text) full compact again size header payload claims h p says said of_header of_payload =
    signable full compact again size claims (written header payload claims h p of_header of_payload says said)
signable_answer (Err fault) full compact again size header payload claims h p says said of_header of_payload = tt
