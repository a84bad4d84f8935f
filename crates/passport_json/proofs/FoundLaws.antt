-- What is read of a text is what the text holds: the other way round of what the laws of tokens say.
use Rattle.std.proofs.Common.{◌≡◌, ℕ, suc, ◌+◌, ◌==◌, Bool, true, false, cond, List, [], ◌∷◌, ◌++◌, length, take, drop, position, Option, Some, None, Result, Ok, Err, refl, sym, ap, subst, ◌∙◌, codes, inl, inr}
use Rattle.std.specs.Bool.{nat_eq}
use Rattle.std.specs.List.{starts_with}
use Rattle.std.specs.Option.{option_map}
use Rattle.std.specs.Prelude.{option_and_then}
use Rattle.std.specs.Str.{is_utf8}
use Rattle.std.proofs.lemmas.Bool.{eqb-true}
use Rattle.std.proofs.lemmas.Option.{option_and_then_some, same_Some}
use Rattle.std.proofs.lemmas.Str.{IsUtf8-from_is_utf8}
use Rattle.base64.proofs.EngineFacts.{front_bytes}
use Rattle.base64.specs.Engines.{url_safe_no_pad}
use Rattle.base64.specs.GeneralPurpose.{IsBytes, decode_of}
use Rattle.base64.specs.declared.decode.DecodeError.{DecodeError}
use Rattle.serde_json.specs.Data.{Data, null, boolean, number, string, array, object}
use Rattle.serde_json.specs.Read.{read}
use Rattle.text_grammar.specs.Cut.{cut, lacks}
use Rattle.text_grammar.proofs.CutLaws.{cut_first, cut_split}
use Rattle.passport_json.specs.declared.fault.TokenFault.TheVariants.{Parts, SignatureLength}
use Rattle.passport_json.specs.Base64.{IsBase64}
use Rattle.passport_json.specs.Compact.{CallView, CompactText, checked_base, rebuilt}
use Rattle.passport_json.specs.Object.{IsObjectText, object_of, only_object}
use Rattle.passport_json.specs.Parts.{PartTexts, AreParts, dot, one_is_empty, parts_of}
use Rattle.passport_json.specs.Token.{FullText, TokenText, checked_base64, checked_json, checked_parts, checked_signature, decoded_signature, or_base64_fault, or_json_fault, read_compact, read_full, read_token, whole_parts}
use Rattle.passport_json.specs.View.{TokenView}
use Rattle.passport_json.proofs.CompactLaws.{compact_text}
use Rattle.passport_json.proofs.DecodedLaws.{base64_found}
use Rattle.passport_json.proofs.TokenLaws.{token_text}
use Rattle.lists.proofs.StepLaws.{came, inside}

-- ---- the parts

cut_by : (text : List ℕ) (parts : List ℕ × List ℕ) (k : Option ℕ) → position (λ b. b == dot) text ≡ k
    → option_map (λ place. (take place text, drop (place + 1) text)) k ≡ Some parts → (text ≡ parts.0 ++ dot ∷ parts.1) × (lacks dot parts.0 ≡ true)
cut_by text parts None e h = absurd cc
cut_by text parts (Some place) e h =
    let same : ◌≡◌ {A = List ℕ × List ℕ} (take place text, drop (place + 1) text) parts = cc in (
      cut_split dot text place e ∙ ap (λ (p : List ℕ × List ℕ). p.0 ++ dot ∷ p.1) same,
      ap (λ (p : List ℕ × List ℕ). lacks dot p.0) (sym same) ∙ cut_first dot text place e,
    )

cut_at_dot : (text : List ℕ) (parts : List ℕ × List ℕ) → cut dot text ≡ Some parts → (text ≡ parts.0 ++ dot ∷ parts.1) × (lacks dot parts.0 ≡ true)
cut_at_dot text parts h = cut_by text parts _ refl h

abbrev whole_of : List ℕ × List ℕ → List ℕ × List ℕ → Option PartTexts
whole_of first second = cond (lacks dot second.1) (Some (record { header = first.0; payload = second.0; signature = second.1 })) None

whole_by : (first second : List ℕ × List ℕ) (parts : PartTexts) (t : Bool) → lacks dot second.1 ≡ t
    → cond t (Some (record { header = first.0; payload = second.0; signature = second.1 })) None ≡ Some parts
    → (lacks dot second.1 ≡ true) × (◌≡◌ {A = PartTexts} (record { header = first.0; payload = second.0; signature = second.1 }) parts)
whole_by first second parts true e h = (e, same_Some _ parts h)
whole_by first second parts false e h = absurd cc

pub parts_found : (text : List ℕ) (parts : PartTexts) → parts_of text ≡ Some parts → AreParts text parts
parts_found text parts h =
    option_and_then_some (λ first. option_and_then (whole_of first) (cut dot first.1)) (cut dot text) parts h
    (λ first e f. option_and_then_some (whole_of first) (cut dot first.1) parts f
    (λ second g k. let one = cut_at_dot text first e in
    let two = cut_at_dot first.1 second g in
    let last = whole_by first second parts (lacks dot second.1) refl k in
    subst (AreParts text) last.1 (record {
      joined = one.0 ∙ ap (λ (x : List ℕ). first.0 ++ dot ∷ x) two.0;
      header = one.1;
      payload = two.1;
      signature = last.0;
    })))

kept_by : (found parts : PartTexts) (t : Bool) → cond t (Err Parts) (Ok found) ≡ Ok parts → found ≡ parts
kept_by found parts true h = absurd cc
kept_by found parts false h = cc

checked_by : (text : List ℕ) (parts : PartTexts) (k : Option PartTexts) → parts_of text ≡ k → whole_parts k ≡ Ok parts → AreParts text parts
checked_by text parts None e h = absurd cc
checked_by text parts (Some found) e h =
    parts_found text parts (e ∙ ap (λ p. Some p) (kept_by found parts (one_is_empty found.header found.payload) h))

pub checked_found : (text : List ℕ) (parts : PartTexts) → checked_parts text ≡ Ok parts → AreParts text parts
checked_found text parts h = checked_by text parts (parts_of text) refl h

behind_bytes : (xs ys : List ℕ) → IsBytes (xs ++ ys) → IsBytes ys
behind_bytes [] ys h i = h i
behind_bytes (x ∷ xs) ys h i = behind_bytes xs ys (λ k. h (suc k)) i

-- each part of bytes is bytes
pub record TypedParts (parts : PartTexts) : Type 0 where
  pub header : IsBytes parts.header
  pub payload : IsBytes parts.payload
  pub signature : IsBytes parts.signature

pub typed : (text : List ℕ) (parts : PartTexts) → IsBytes text → AreParts text parts → TypedParts parts
typed text parts bytes are =
    let all : IsBytes (parts.header ++ dot ∷ (parts.payload ++ dot ∷ parts.signature)) = subst IsBytes are.joined bytes in
    let rest : IsBytes (parts.payload ++ dot ∷ parts.signature) = λ i. behind_bytes parts.header (dot ∷ (parts.payload ++ dot ∷ parts.signature)) all (suc i) in
    record {
      header = front_bytes parts.header (dot ∷ (parts.payload ++ dot ∷ parts.signature)) all;
      payload = front_bytes parts.payload (dot ∷ parts.signature) rest;
      signature = λ i. behind_bytes parts.payload (dot ∷ parts.signature) rest (suc i);
    }

-- ---- the checks of each part

decoded_by : (part : ℕ) (text bytes : List ℕ) (k : Result (List ℕ) DecodeError) → decode_of url_safe_no_pad text ≡ k → or_base64_fault part k ≡ Ok bytes
    → decode_of url_safe_no_pad text ≡ Ok bytes
decoded_by part text bytes (Ok found) e h = let same : found ≡ bytes = cc in e ∙ ap (λ x. Ok x) same
decoded_by part text bytes (Err error) e h = absurd cc

pub encoded : (part : ℕ) (text bytes : List ℕ) → IsBytes text → checked_base64 part text ≡ Ok bytes → IsBase64 text bytes
encoded part text bytes is h = base64_found text bytes is (decoded_by part text bytes (decode_of url_safe_no_pad text) refl h)

signature_by : (bytes signature : List ℕ) (t : Bool) → (length bytes == 64) ≡ t → cond t (Ok bytes) (Err SignatureLength) ≡ Ok signature
    → (signature ≡ bytes) × (length bytes ≡ 64)
signature_by bytes signature true e h = let same : bytes ≡ signature = cc in (sym same, eqb-true (length bytes) 64 e)
signature_by bytes signature false e h = absurd cc

signed : (bytes signature : List ℕ) → checked_signature bytes ≡ Ok signature → (signature ≡ bytes) × (length bytes ≡ 64)
signed bytes signature h = signature_by bytes signature _ refl h

pub signature_found : (text signature : List ℕ) → IsBytes text → decoded_signature text ≡ Ok signature
    → IsBase64 text signature × (length signature ≡ 64)
signature_found text signature is h =
    let bytes = came (checked_base64 3 text) checked_signature signature h in
    let same = signed bytes.0 signature bytes.2 in
    (rw same.0 (encoded 3 text bytes.0 is bytes.1), rw same.0 same.1)

only_found : (found value : Data) → only_object found ≡ Some value → (found ≡ value) × ((members : _) × (value ≡ object members))
only_found null value h = absurd cc
only_found (boolean b) value h = absurd cc
only_found (number n) value h = absurd cc
only_found (string s) value h = absurd cc
only_found (array items) value h = absurd cc
only_found (object members) value h = let same : object members ≡ value = cc in (same, (members, sym same))

object_by : (bytes : List ℕ) (value : Data) (t : Bool) → is_utf8 bytes ≡ t → cond t (option_and_then only_object (read bytes)) None ≡ Some value
    → IsObjectText bytes value
object_by bytes value true e h =
    option_and_then_some only_object (read bytes) value h
    (λ found was is. let o = only_found found value is in
    record { members = o.1.0; utf8 = IsUtf8-from_is_utf8 bytes e; read_as = was ∙ ap (λ x. Some x) o.0; is_object = o.1.1 })
object_by bytes value false e h = absurd cc

json_by : (part : ℕ) (value : Data) (k : Option Data) → or_json_fault part k ≡ Ok value → k ≡ Some value
json_by part value None h = absurd cc
json_by part value (Some found) h = let same : found ≡ value = cc in ap (λ x. Some x) same

pub object_found : (part : ℕ) (bytes : List ℕ) (value : Data) → checked_json part bytes ≡ Ok value → IsObjectText bytes value
object_found part bytes value h = object_by bytes value _ refl (json_by part value (object_of bytes) h)

-- ---- the two forms

full_found : (text : List ℕ) (token : TokenView) → IsBytes text → read_full text ≡ Ok token → FullText text token
unfolding read_full
full_found text token bytes h =
    let parts = came (checked_parts text) _ token h in
    let header_bytes = came (checked_base64 1 parts.0.header) _ token parts.2 in
    let payload_bytes = came (checked_base64 2 parts.0.payload) _ token header_bytes.2 in
    let signature = came (decoded_signature parts.0.signature) _ token payload_bytes.2 in
    let header = came (checked_json 1 header_bytes.0) _ token signature.2 in
    let payload = came (checked_json 2 payload_bytes.0) _ token header.2 in
    let are = checked_found text parts.0 parts.1 in
    let each = typed text parts.0 bytes are in
    let whole = signature_found parts.0.signature signature.0 each.signature signature.1 in
    let made = token_text text parts.0 header_bytes.0 payload_bytes.0 _ _ signature.0 header.0 payload.0 are
    (encoded 1 parts.0.header header_bytes.0 each.header header_bytes.1)
    (encoded 2 parts.0.payload payload_bytes.0 each.payload payload_bytes.1)
    whole.0 whole.1
    (object_found 1 header_bytes.0 header.0 header.1)
    (object_found 2 payload_bytes.0 payload.0 payload.1) refl refl in
    subst (FullText text) (inside _ token payload.2) made

compact_found : (text : List ℕ) (call : CallView) (token : TokenView) → IsBytes text → starts_with nat_eq text (codes "..") ≡ true → read_compact call text ≡ Ok token
    → CompactText text call token
unfolding read_compact
compact_found text call token bytes dots h =
    let parts = came (checked_parts text) _ token h in
    let signature = came (decoded_signature parts.0.signature) _ token parts.2 in
    let passport = came (checked_base call) _ token signature.2 in
    let are = checked_found text parts.0 parts.1 in
    let each = typed text parts.0 bytes are in
    let whole = signature_found parts.0.signature signature.0 each.signature signature.1 in
    compact_text text parts.0 signature.0 call passport.0 token dots are whole.0 whole.1 passport.1 (sym (inside (rebuilt passport.0 signature.0) token passport.2))

token_by : (text : List ℕ) (call : CallView) (token : TokenView) (t : Bool) → IsBytes text → starts_with nat_eq text (codes "..") ≡ t
    → cond t (read_compact call text) (read_full text) ≡ Ok token → TokenText text call token
token_by text call token true bytes e h = inr (compact_found text call token bytes e h)
token_by text call token false bytes e h = inl (full_found text token bytes h)

pub token_found : (text : List ℕ) (call : CallView) (token : TokenView) → IsBytes text → read_token call text ≡ Ok token → TokenText text call token
unfolding read_token
token_found text call token bytes h = token_by text call token _ bytes refl h
