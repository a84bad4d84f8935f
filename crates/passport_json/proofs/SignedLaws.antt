-- What was signed has the payload after its dot, in either form.
use Rattle.std.proofs.Common.{◌≡◌, ℕ, zero, suc, ◌+◌, ◌*◌, ◌/◌, ◌%◌, ◌==◌, not, true, List, [], ◌∷◌, ◌++◌, Some, refl, ap, ◌∙◌}
use Rattle.std.specs.Prelude.{IsUtf8, slice_index}
use Rattle.std.proofs.lemmas.List.{append-nil}
use Rattle.base64.proofs.EngineFacts.{decode_of-encode_of}
use Rattle.base64.specs.Engines.{url_safe_no_pad}
use Rattle.base64.specs.GeneralPurpose.{encode_of, IsBytes}
use Rattle.base64.specs.Rfc4648.{encode_symbols}
use Rattle.serde_json.specs.Data.{Data, Members, object}
use Rattle.serde_json.specs.Read.{read}
use Rattle.text_grammar.specs.Cut.{lacks}
use Rattle.passport_json.specs.Base64.{IsBase64}
use Rattle.passport_json.specs.Object.{IsObjectText}
use Rattle.passport_json.specs.Parts.{dot}
use Rattle.passport_json.specs.Signed.{payload_in}
use Rattle.passport_json.specs.Signing.{Signing}
use Rattle.passport_json.specs.Token.{FullText}
use Rattle.passport_json.specs.View.{TokenView}
use Rattle.passport_json.proofs.ObjectLaws.{object_again}
use Rattle.std.proofs.lemmas.Bool.{and_parts}
use Rattle.text_grammar.proofs.CutLaws.{cut_again}

-- ---- no symbol of base64url is the dot

no_dot_at : (symbols : List ℕ) (i : ℕ) → lacks dot symbols ≡ true → not (slice_index symbols i == dot) ≡ true
no_dot_at [] i h = refl
no_dot_at (x ∷ xs) zero h = (and_parts (not (x == dot)) (lacks dot xs) h).0
no_dot_at (x ∷ xs) (suc i) h = no_dot_at xs i (and_parts (not (x == dot)) (lacks dot xs) h).1

symbols_lack : (t bytes : List ℕ) → lacks dot t ≡ true → lacks dot (encode_symbols t bytes) ≡ true
unfolding encode_symbols
symbols_lack t [] h = refl
symbols_lack t (a ∷ []) h = rw (no_dot_at t (a / 4) h, no_dot_at t (a % 4 * 16) h) refl
symbols_lack t (a ∷ b ∷ []) h = rw (no_dot_at t (a / 4) h, no_dot_at t (a % 4 * 16 + b / 16) h, no_dot_at t (b % 16 * 4) h) refl
symbols_lack t (a ∷ b ∷ c ∷ rest) h =
    rw (no_dot_at t (a / 4) h, no_dot_at t (a % 4 * 16 + b / 16) h, no_dot_at t (b % 16 * 4 + c / 64) h, no_dot_at t (c % 64) h, symbols_lack t rest h) refl

pub encoded_lacks : (bytes : List ℕ) → lacks dot (encode_of url_safe_no_pad bytes) ≡ true
encoded_lacks bytes = ap (lacks dot) (append-nil (encode_symbols url_safe_no_pad.encode_table bytes)) ∙ symbols_lack url_safe_no_pad.encode_table bytes refl

-- ---- the payload after the dot

behind_dot : (front payload bytes : List ℕ) (value : Data) → lacks dot front ≡ true → IsBase64 payload bytes → IsObjectText bytes value
    → payload_in (front ++ dot ∷ payload) ≡ Some value
unfolding payload_in
behind_dot front payload bytes value none is t =
    rw (cut_again dot front payload none, is.encoded, decode_of-encode_of url_safe_no_pad bytes refl is.are_bytes) (object_again bytes value t)

pub full_signed : (text : List ℕ) (token : TokenView) → FullText text token → payload_in token.signing ≡ Some token.payload
full_signed text token t =
    ap payload_in t.signing_received ∙ behind_dot t.parts.header t.parts.payload t.payload_bytes token.payload t.are_parts.header t.payload_encoded t.payload_object

pub rebuilt_signed : (signing header bytes : List ℕ) (value : Data) (members : Members) → signing ≡ Signing header bytes → IsBytes bytes → IsUtf8 bytes
    → read bytes ≡ Some value → value ≡ object members → payload_in signing ≡ Some value
rebuilt_signed signing header bytes value members e are text r o =
    let encoded : IsBase64 (encode_of url_safe_no_pad bytes) bytes = record { are_bytes = are; encoded = refl } in
    let t : IsObjectText bytes value = record { members = members; utf8 = text; read_as = r; is_object = o } in
    ap payload_in e ∙ behind_dot (encode_of url_safe_no_pad header) (encode_of url_safe_no_pad bytes) bytes value (encoded_lacks header) encoded t
