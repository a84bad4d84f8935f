-- The checks in their order give what the relation says of a text.
use Rattle.std.proofs.Common.{◌≡◌, ◌≢◌, ℕ, false, List, [], ◌∷◌, length, None, Result, Ok, refl, sym, subst, ◌∙◌}
use Rattle.lists.proofs.GivenLaws.{only_given}
use Rattle.base64.proofs.EngineFacts.{decode_of-encode_of}
use Rattle.base64.specs.Engines.{url_safe_no_pad}
use Rattle.base64.specs.GeneralPurpose.{encode_of}
use Rattle.base64.specs.Rfc4648.{encode_symbols}
use Rattle.serde_json.proofs.OnLiterals.{serde_json_on_literals}
use Rattle.serde_json.specs.Data.{Data}
use Rattle.serde_json.specs.Read.{read}
use Rattle.passport_json.specs.declared.fault.TokenFault.{TokenFault}
use Rattle.passport_json.specs.Base64.{IsBase64}
use Rattle.passport_json.specs.Object.{IsObjectText}
use Rattle.passport_json.specs.Parts.{PartTexts, AreParts, one_is_empty, signing_of}
use Rattle.passport_json.specs.Reading.{Gives, IsOkUnlessMemory, fault_seen}
use Rattle.passport_json.specs.Token.{FullText, checked_parts, checked_base64, checked_signature, read_full}
use Rattle.passport_json.specs.View.{TokenView}
use Rattle.passport_json.proofs.ObjectLaws.{json_again}
use Rattle.passport_json.proofs.PartLaws.{parts_again}

pub base64_again : (part : ℕ) (text bytes : List ℕ) → IsBase64 text bytes → checked_base64 part text ≡ Ok bytes
base64_again part text bytes is = rw (is.encoded, decode_of-encode_of url_safe_no_pad bytes refl is.are_bytes) refl

none_empty : (a b : List ℕ) → a ≢ [] → b ≢ [] → one_is_empty a b ≡ false
none_empty [] b x y = absurd (x refl)
none_empty (a ∷ more) [] x y = absurd (y refl)
none_empty (a ∷ more) (b ∷ bs) x y = refl

pub checked_again : (text : List ℕ) (parts : PartTexts) → AreParts text parts → one_is_empty parts.header parts.payload ≡ false → checked_parts text ≡ Ok parts
checked_again text parts are both = rw (parts_again text parts are, both) refl

pub signature_again : (bytes : List ℕ) → length bytes ≡ 64 → checked_signature bytes ≡ Ok bytes
signature_again bytes e = rw e refl

pub token_again : (text : List ℕ) (token : TokenView) → FullText text token → read_full text ≡ Ok token
unfolding read_full
token_again text token t =
    rw (
      checked_again text t.parts t.are_parts (none_empty t.parts.header t.parts.payload t.has_header t.has_payload),
      base64_again 1 t.parts.header t.header_bytes t.header_encoded,
      base64_again 2 t.parts.payload t.payload_bytes t.payload_encoded,
      base64_again 3 t.parts.signature token.signature t.signature_encoded,
      signature_again token.signature t.signature_length,
      json_again 1 t.header_bytes token.header t.header_object,
      json_again 2 t.payload_bytes token.payload t.payload_object,
      ← t.signing_received,
      ← t.is_full,
    ) refl

pub only_of : (result given : Result TokenView TokenFault) → Gives (λ token. token) result given
    → (token : TokenView) → given ≡ Ok token → IsOkUnlessMemory result (λ read. read ≡ token)
only_of result given gives token ok = only_given fault_seen (λ token. token) result given token gives ok

no_bytes : (bytes : List ℕ) → [] ≡ encode_of url_safe_no_pad bytes → bytes ≡ []
unfolding encode_symbols
no_bytes [] e = refl
no_bytes (a ∷ []) e = absurd cc
no_bytes (a ∷ b ∷ []) e = absurd cc
no_bytes (a ∷ b ∷ c ∷ rest) e = absurd cc

empty_is_no_object : (value : Data) → IsObjectText [] value → ⊥
unfolding serde_json_on_literals
empty_is_no_object value t = let e : read [] ≡ None = refl in let some = t.read_as in absurd cc

pub not_empty : (text bytes : List ℕ) (value : Data) → IsBase64 text bytes → IsObjectText bytes value → text ≢ []
not_empty text bytes value is t empty =
    let none : bytes ≡ [] = no_bytes bytes (sym empty ∙ is.encoded) in
    let P : List ℕ → Type 0 = λ b. IsObjectText b value in
    empty_is_no_object value (subst P none t)

pub token_text : (text : List ℕ) (parts : PartTexts) (header_bytes payload_bytes received signing signature : List ℕ) (header payload : Data)
    → AreParts text parts → IsBase64 parts.header header_bytes → IsBase64 parts.payload payload_bytes → IsBase64 parts.signature signature
    → length signature ≡ 64 → IsObjectText header_bytes header → IsObjectText payload_bytes payload
    → received ≡ signing_of parts → signing ≡ received → FullText text (record { header = header; payload = payload; signing = signing; signature = signature; compact = false })
token_text text parts header_bytes payload_bytes received signing signature header payload are h p s n ho po e copied = record {
  parts = parts;
  header_bytes = header_bytes;
  payload_bytes = payload_bytes;
  are_parts = are;
  has_header = not_empty parts.header header_bytes header h ho;
  has_payload = not_empty parts.payload payload_bytes payload p po;
  header_encoded = h;
  payload_encoded = p;
  signature_encoded = s;
  signature_length = n;
  header_object = ho;
  payload_object = po;
  signing_received = copied ∙ e;
  is_full = refl;
}
