-- A text is refused for the first check that it breaks, and the first that it breaks is what it is refused for.
use Rattle.std.proofs.Common.{◌≡◌, ◌≢◌, ℕ, inl, inr, Bool, true, false, cond, List, [], length, Option, Some, None, Result, Ok, Err, codes, refl, sym, ap, subst, ◌∙◌}
use Rattle.std.specs.Bool.{nat_eq}
use Rattle.std.specs.List.{starts_with}
use Rattle.std.specs.Prelude.{IfSome}
use Rattle.base64.specs.GeneralPurpose.{IsBytes}
use Rattle.lists.specs.Given.{IsFaultOf}
use Rattle.lists.specs.Steps.{◌>>=◌}
use Rattle.serde_json.specs.Data.{Data}
use Rattle.passport_json.specs.declared.fault.TokenFault.{TokenFault}
use Rattle.passport_json.specs.declared.fault.TokenFault.TheVariants as faults
use Rattle.passport_json.specs.Base64.{IsBase64}
use Rattle.passport_json.specs.Compact.{CallView, checked_base, rebuilt}
use Rattle.passport_json.specs.Object.{IsObjectText}
use Rattle.passport_json.specs.Parts.{AreParts, PartTexts, signing_of}
use Rattle.passport_json.specs.Reading.{Gives, IfRefused, fault_seen}
use Rattle.passport_json.specs.Refused.{HasBoth, HasNeither, IsDecoded, IsNoBase64, IsNoObject, IsSerialized, IsSized, Lacks, Refused, compact, dots, header_base64, header_object, one_empty, payload_base64, payload_object, signature_base64, signature_length}
use Rattle.passport_json.specs.Token.{checked_base64, checked_json, checked_parts, checked_signature, decoded_signature, read_compact, read_full, read_token}
use Rattle.passport_json.specs.View.{TokenView}
use Rattle.passport_json.proofs.CompactLaws.{bare_parts, read_dots, read_else}
use Rattle.passport_json.proofs.FoundLaws.{TypedParts, encoded, object_found, signature_found, typed}
use Rattle.passport_json.proofs.ObjectLaws.{json_again}
use Rattle.passport_json.proofs.RefusedSteps.{bare_start, base64_refused, base_refused, both_there, empty_encoded, full_start, json_refused, no_base, no_base64, no_base64_some, no_object, no_parts, no_size, one_empty_not, one_part, parts_refused, payload_start, serialized, serialized_again, signature_refused, stops}
use Rattle.passport_json.proofs.TokenLaws.{base64_again, signature_again}

abbrev texts : List ℕ → List ℕ → List ℕ → PartTexts
texts header payload signature = record { header = header; payload = payload; signature = signature }

-- ---- the full form: what is left to read after each check, and that its fault is the text's

abbrev token_of : PartTexts → Data → Data → List ℕ → TokenView
token_of parts header payload signature = record {
  header = header;
  payload = payload;
  signing = signing_of parts;
  signature = signature;
  compact = false;
}

abbrev behind_header : PartTexts → Data → List ℕ → List ℕ → Result TokenView TokenFault
behind_header parts header payload signature = checked_json 2 payload >>= λ payload. Ok (token_of parts header payload signature)

payload_refused : (text : List ℕ) (call : CallView) (fault : TokenFault) (parts bytes : PartTexts) (header : Data) (signature : List ℕ)
    → IsSized text parts bytes → HasBoth parts → IsObjectText bytes.header header → behind_header parts header bytes.payload signature ≡ Err fault
    → Refused text call fault
payload_refused text call fault parts bytes header signature sized both object h =
    elim (stops (checked_json 2 bytes.payload) _ fault h) [
      | inl k ↦ payload_object parts bytes header sized both object (json_refused 2 bytes.payload fault k).1 (json_refused 2 bytes.payload fault k).0
      | inr p ↦ absurd (let e = p.2 in cc)
    ]

abbrev behind_size : PartTexts → List ℕ → List ℕ → List ℕ → Result TokenView TokenFault
behind_size parts header payload signature = checked_json 1 header >>= λ header. behind_header parts header payload signature

header_refused : (text : List ℕ) (call : CallView) (fault : TokenFault) (parts bytes : PartTexts) (signature : List ℕ) → IsSized text parts bytes
    → HasBoth parts → behind_size parts bytes.header bytes.payload signature ≡ Err fault → Refused text call fault
header_refused text call fault parts bytes signature sized both h =
    elim (stops (checked_json 1 bytes.header) _ fault h) [
      | inl k ↦ header_object parts bytes sized both (json_refused 1 bytes.header fault k).1 (json_refused 1 bytes.header fault k).0
      | inr p ↦ payload_refused text call fault parts bytes p.0 signature sized both (object_found 1 bytes.header p.0 p.1) p.2
    ]

-- a fault of the third part, in either form
signature_refused_by : (text : List ℕ) (call : CallView) (fault : TokenFault) (parts : PartTexts) (header payload : List ℕ) → IsBytes parts.signature
    → IsSerialized text parts → IsBase64 parts.header header → IsBase64 parts.payload payload → decoded_signature parts.signature ≡ Err fault
    → Refused text call fault
signature_refused_by text call fault parts header payload bytes s eh ep h =
    elim (stops (checked_base64 3 parts.signature) checked_signature fault h) [
      | inl k ↦ signature_base64 parts header payload s eh ep (base64_refused 3 parts.signature fault k).1 (base64_refused 3 parts.signature fault k).0
      | inr p ↦ signature_length parts (texts header payload p.0)
          (record { serialized = s; header = eh; payload = ep; signature = encoded 3 parts.signature p.0 bytes p.1 })
          (signature_refused p.0 fault p.2).1 (signature_refused p.0 fault p.2).0
    ]

sized : (text : List ℕ) (parts : PartTexts) (header payload signature : List ℕ) → IsBytes parts.signature → IsSerialized text parts
    → IsBase64 parts.header header → IsBase64 parts.payload payload → decoded_signature parts.signature ≡ Ok signature
    → IsSized text parts (texts header payload signature)
sized text parts header payload signature bytes s eh ep h =
    let whole = signature_found parts.signature signature bytes h in
    record { decoded = record { serialized = s; header = eh; payload = ep; signature = whole.0 }; size = whole.1 }

abbrev behind_payload : PartTexts → List ℕ → List ℕ → Result TokenView TokenFault
behind_payload parts header payload = decoded_signature parts.signature >>= λ signature. behind_size parts header payload signature

third_refused : (text : List ℕ) (call : CallView) (fault : TokenFault) (parts : PartTexts) (header payload : List ℕ) → IsBytes parts.signature
    → IsSerialized text parts → HasBoth parts → IsBase64 parts.header header → IsBase64 parts.payload payload
    → behind_payload parts header payload ≡ Err fault → Refused text call fault
third_refused text call fault parts header payload bytes s both eh ep h =
    elim (stops (decoded_signature parts.signature) _ fault h) [
      | inl k ↦ signature_refused_by text call fault parts header payload bytes s eh ep k
      | inr p ↦ header_refused text call fault parts (texts header payload p.0) p.0 (sized text parts header payload p.0 bytes s eh ep p.1) both p.2
    ]

abbrev behind_first : PartTexts → List ℕ → Result TokenView TokenFault
behind_first parts header = checked_base64 2 parts.payload >>= λ payload. behind_payload parts header payload

second_refused : (text : List ℕ) (call : CallView) (fault : TokenFault) (parts : PartTexts) (header : List ℕ) → TypedParts parts
    → IsSerialized text parts → HasBoth parts → IsBase64 parts.header header → behind_first parts header ≡ Err fault → Refused text call fault
second_refused text call fault parts header bytes s both eh h =
    elim (stops (checked_base64 2 parts.payload) _ fault h) [
      | inl k ↦ payload_base64 parts header s eh (base64_refused 2 parts.payload fault k).1 (base64_refused 2 parts.payload fault k).0
      | inr p ↦ third_refused text call fault parts header p.0 bytes.signature s both eh (encoded 2 parts.payload p.0 bytes.payload p.1) p.2
    ]

abbrev behind_parts : PartTexts → Result TokenView TokenFault
behind_parts parts = checked_base64 1 parts.header >>= λ header. behind_first parts header

first_refused : (text : List ℕ) (call : CallView) (fault : TokenFault) (parts : PartTexts) → TypedParts parts → IsSerialized text parts → HasBoth parts
    → behind_parts parts ≡ Err fault → Refused text call fault
first_refused text call fault parts bytes s both h =
    elim (stops (checked_base64 1 parts.header) _ fault h) [
      | inl k ↦ header_base64 parts s (base64_refused 1 parts.header fault k).1 (base64_refused 1 parts.header fault k).0
      | inr p ↦ second_refused text call fault parts p.0 bytes s both (encoded 1 parts.header p.0 bytes.header p.1) p.2
    ]

full_refused : (text : List ℕ) (call : CallView) (fault : TokenFault) → IsBytes text → starts_with nat_eq text (codes "..") ≡ false
    → read_full text ≡ Err fault → Refused text call fault
unfolding read_full
full_refused text call fault bytes start h =
    elim (stops (checked_parts text) _ fault h) [
      | inl k ↦ parts_refused text call fault k
      | inr p ↦ first_refused text call fault p.0 (typed text p.0 bytes (serialized text p.0 p.1).are) (serialized text p.0 p.1)
          (both_there text p.0 (serialized text p.0 p.1) start) p.2
    ]

-- ---- the compact form

-- the parts of a text that begins with two dots: the signature alone
abbrev bare : PartTexts → PartTexts
bare parts = texts [] [] parts.signature

bare_serialized : (text : List ℕ) (parts : PartTexts) → AreParts text parts → starts_with nat_eq text (codes "..") ≡ true → IsSerialized text (bare parts)
bare_serialized text parts are start = record { are = bare_parts text parts are start; both = one_empty_not [] [] refl }

abbrev behind_bare : CallView → List ℕ → Result TokenView TokenFault
behind_bare call signature = checked_base call >>= λ passport. Ok (rebuilt passport signature)

call_refused : (text : List ℕ) (call : CallView) (fault : TokenFault) (parts bytes : PartTexts) (signature : List ℕ) → IsSized text parts bytes → HasNeither parts
    → behind_bare call signature ≡ Err fault → Refused text call fault
call_refused text call fault parts bytes signature sized neither h =
    elim (stops (checked_base call) _ fault h) [
      | inl k ↦ compact parts bytes sized neither (base_refused call fault k).1 (base_refused call fault k).0
      | inr p ↦ absurd (let e = p.2 in cc)
    ]

bare_refused : (text : List ℕ) (call : CallView) (fault : TokenFault) (parts : PartTexts) → IsBytes parts.signature → IsSerialized text (bare parts)
    → (decoded_signature parts.signature >>= behind_bare call) ≡ Err fault → Refused text call fault
bare_refused text call fault parts bytes s h =
    elim (stops (decoded_signature parts.signature) _ fault h) [
      | inl k ↦ signature_refused_by text call fault (bare parts) [] [] bytes s empty_encoded empty_encoded k
      | inr p ↦ call_refused text call fault (bare parts) (texts [] [] p.0) p.0 (sized text (bare parts) [] [] p.0 bytes s empty_encoded empty_encoded p.1) (refl, refl) p.2
    ]

compact_refused : (text : List ℕ) (call : CallView) (fault : TokenFault) → IsBytes text → starts_with nat_eq text (codes "..") ≡ true
    → read_compact call text ≡ Err fault → Refused text call fault
unfolding read_compact
compact_refused text call fault bytes start h =
    elim (stops (checked_parts text) _ fault h) [
      | inl k ↦ parts_refused text call fault k
      | inr p ↦ bare_refused text call fault p.0 (typed text p.0 bytes (serialized text p.0 p.1).are).signature
          (bare_serialized text p.0 (serialized text p.0 p.1).are start) p.2
    ]

-- what is read as a fault is the first check that the text breaks
pub refused_found : (text : List ℕ) (call : CallView) (fault : TokenFault) → IsBytes text → read_token call text ≡ Err fault → Refused text call fault
unfolding read_token
refused_found text call fault bytes h = of (starts_with nat_eq text (codes "..")) refl h
  where
    of : (t : Bool) → starts_with nat_eq text (codes "..") ≡ t → cond t (read_compact call text) (read_full text) ≡ Err fault → Refused text call fault
    of true start h = compact_refused text call fault bytes start h
    of false start h = full_refused text call fault bytes start h

-- ---- the other way round

-- what both forms are read as is what is read
in_both : (text : List ℕ) (call : CallView) (r : Result TokenView TokenFault) → read_compact call text ≡ r → read_full text ≡ r → read_token call text ≡ r
unfolding read_token
in_both text call r a b = of (starts_with nat_eq text (codes ".."))
  where
    of : (t : Bool) → cond t (read_compact call text) (read_full text) ≡ r
    of true = a
    of false = b

compact_parts : (text : List ℕ) (call : CallView) → checked_parts text ≡ Err faults.Parts → read_compact call text ≡ Err faults.Parts
unfolding read_compact
compact_parts text call h = rw h refl

full_parts : (text : List ℕ) → checked_parts text ≡ Err faults.Parts → read_full text ≡ Err faults.Parts
unfolding read_full
full_parts text h = rw h refl

parts_read : (text : List ℕ) (call : CallView) → checked_parts text ≡ Err faults.Parts → read_token call text ≡ Err faults.Parts
parts_read text call h = in_both text call (Err faults.Parts) (compact_parts text call h) (full_parts text h)

-- the full form

first_read : (text : List ℕ) (parts : PartTexts) → IsBytes text → IsSerialized text parts → IsNoBase64 parts.header
    → read_full text ≡ Err (faults.Base64 1)
unfolding read_full
first_read text parts bytes s none =
    rw (serialized_again text parts s, no_base64 1 parts.header (typed text parts bytes s.are).header none) refl

second_read : (text : List ℕ) (parts : PartTexts) (header : List ℕ) → IsBytes text → IsSerialized text parts → IsBase64 parts.header header
    → IsNoBase64 parts.payload → read_full text ≡ Err (faults.Base64 2)
unfolding read_full
second_read text parts header bytes s eh none =
    rw (
      serialized_again text parts s,
      base64_again 1 parts.header header eh,
      no_base64 2 parts.payload (typed text parts bytes s.are).payload none,
    ) refl

third_read : (text : List ℕ) (parts : PartTexts) (header payload : List ℕ) → IsBytes text → IsSerialized text parts → IsBase64 parts.header header
    → IsBase64 parts.payload payload → IsNoBase64 parts.signature → read_full text ≡ Err (faults.Base64 3)
unfolding read_full
third_read text parts header payload bytes s eh ep none =
    rw (
      serialized_again text parts s,
      base64_again 1 parts.header header eh,
      base64_again 2 parts.payload payload ep,
      no_base64 3 parts.signature (typed text parts bytes s.are).signature none,
    ) refl

size_read : (text : List ℕ) (parts bytes : PartTexts) → IsDecoded text parts bytes → length bytes.signature ≢ 64 → read_full text ≡ Err faults.SignatureLength
unfolding read_full
size_read text parts bytes d n =
    rw (
      serialized_again text parts d.serialized,
      base64_again 1 parts.header bytes.header d.header,
      base64_again 2 parts.payload bytes.payload d.payload,
      base64_again 3 parts.signature bytes.signature d.signature,
      no_size bytes.signature n,
    ) refl

-- what is left to read, if the encodings and the size of the signature are right
sized_read : (text : List ℕ) (parts bytes : PartTexts) → IsSized text parts bytes → read_full text ≡ behind_size parts bytes.header bytes.payload bytes.signature
unfolding read_full
sized_read text parts bytes z =
    let d = z.decoded in
    rw (
      serialized_again text parts d.serialized,
      base64_again 1 parts.header bytes.header d.header,
      base64_again 2 parts.payload bytes.payload d.payload,
      base64_again 3 parts.signature bytes.signature d.signature,
      signature_again bytes.signature z.size,
    ) refl

header_read : (text : List ℕ) (parts bytes : PartTexts) → IsSized text parts bytes → IsNoObject bytes.header → read_full text ≡ Err (faults.Json 1)
header_read text parts bytes z none = rw (sized_read text parts bytes z, no_object 1 bytes.header none) refl

payload_read : (text : List ℕ) (parts bytes : PartTexts) (header : Data) → IsSized text parts bytes → IsObjectText bytes.header header
    → IsNoObject bytes.payload → read_full text ≡ Err (faults.Json 2)
payload_read text parts bytes header z object none = rw (sized_read text parts bytes z, json_again 1 bytes.header header object, no_object 2 bytes.payload none) refl

-- the compact form

bare_third_read : (text : List ℕ) (call : CallView) (parts : PartTexts) → IsBytes text → IsSerialized text parts → IsNoBase64 parts.signature
    → read_compact call text ≡ Err (faults.Base64 3)
unfolding read_compact
bare_third_read text call parts bytes s none =
    rw (serialized_again text parts s, no_base64 3 parts.signature (typed text parts bytes s.are).signature none) refl

bare_size_read : (text : List ℕ) (call : CallView) (parts bytes : PartTexts) → IsDecoded text parts bytes → length bytes.signature ≢ 64
    → read_compact call text ≡ Err faults.SignatureLength
unfolding read_compact
bare_size_read text call parts bytes d n =
    rw (
      serialized_again text parts d.serialized,
      base64_again 3 parts.signature bytes.signature d.signature,
      no_size bytes.signature n,
    ) refl

call_read : (text : List ℕ) (call : CallView) (parts bytes : PartTexts) → IsSized text parts bytes → Lacks call → read_compact call text ≡ Err faults.Compact
unfolding read_compact
call_read text call parts bytes z lacks =
    let d = z.decoded in
    rw (
      serialized_again text parts d.serialized,
      base64_again 3 parts.signature bytes.signature d.signature,
      signature_again bytes.signature z.size,
      no_base call lacks,
    ) refl

abbrev refused_token : TokenFault → Result TokenView TokenFault
refused_token fault = Err fault

-- the first check that the text breaks is what is read
pub refused_again : (text : List ℕ) (call : CallView) (fault : TokenFault) → IsBytes text → Refused text call fault → read_token call text ≡ Err fault
refused_again text call fault bytes (dots none e) = parts_read text call (no_parts text none) ∙ ap refused_token (sym e)
refused_again text call fault bytes (one_empty parts are one e) = parts_read text call (one_part text parts are one) ∙ ap refused_token (sym e)
refused_again text call fault bytes (header_base64 parts s none e) =
    let start = full_start text parts s.are (no_base64_some parts.header none) in
    read_else text call start ∙ (first_read text parts bytes s none ∙ ap refused_token (sym e))
refused_again text call fault bytes (payload_base64 parts header s eh none e) =
    let start = payload_start text parts s (no_base64_some parts.payload none) in
    read_else text call start ∙ (second_read text parts header bytes s eh none ∙ ap refused_token (sym e))
refused_again text call fault bytes (signature_base64 parts header payload s eh ep none e) =
    in_both text call (Err (faults.Base64 3)) (bare_third_read text call parts bytes s none) (third_read text parts header payload bytes s eh ep none)
    ∙ ap refused_token (sym e)
refused_again text call fault bytes (signature_length parts read d n e) =
    in_both text call (Err faults.SignatureLength) (bare_size_read text call parts read d n) (size_read text parts read d n) ∙ ap refused_token (sym e)
refused_again text call fault bytes (header_object parts read z both none e) =
    let start = full_start text parts z.decoded.serialized.are both.0 in
    read_else text call start ∙ (header_read text parts read z none ∙ ap refused_token (sym e))
refused_again text call fault bytes (payload_object parts read header z both object none e) =
    let start = full_start text parts z.decoded.serialized.are both.0 in
    read_else text call start ∙ (payload_read text parts read header z object none ∙ ap refused_token (sym e))
refused_again text call fault bytes (compact parts read z neither lacks e) =
    let start = bare_start text parts z.decoded.serialized.are neither in
    read_dots text call start ∙ (call_read text call parts read z lacks ∙ ap refused_token (sym e))

-- ---- of an answer

by_seen : (seen : Option TokenFault) (read : Result TokenView TokenFault) (P : TokenFault → Type 0) → ((fault : TokenFault) → read ≡ Err fault → P fault)
    → IsFaultOf seen read → IfSome seen P
by_seen None read P means gives = tt
by_seen (Some fault) read P means gives = means fault gives

answer_refused : (text : List ℕ) (call : CallView) (result : Result TokenView TokenFault) → IsBytes text → Gives (λ token. token) result (read_token call text)
    → IfRefused result (Refused text call)
answer_refused text call (Ok token) bytes gives = tt
answer_refused text call (Err fault) bytes gives =
    by_seen (fault_seen fault) (read_token call text) (Refused text call) (λ fault e. refused_found text call fault bytes e) gives

answer_only : (text : List ℕ) (call : CallView) (result : Result TokenView TokenFault) → IsBytes text → Gives (λ token. token) result (read_token call text)
    → (fault : TokenFault) → Refused text call fault → Gives {X = TokenView} {A = TokenView} (λ token. token) result (Err fault)
answer_only text call result bytes gives fault refused =
    subst (Gives {X = TokenView} {A = TokenView} (λ token. token) result) (refused_again text call fault bytes refused) gives

-- of a text that begins with two dots, and of one that doesn't

read_from_dots : (text : List ℕ) (call : CallView) (result : Result TokenView TokenFault) → starts_with nat_eq text (codes "..") ≡ true
    → Gives (λ token. token) result (read_compact call text) → Gives {X = TokenView} {A = TokenView} (λ token. token) result (read_token call text)
read_from_dots text call result start gives = subst (Gives {X = TokenView} {A = TokenView} (λ token. token) result) (sym (read_dots text call start)) gives

read_from_else : (text : List ℕ) (call : CallView) (result : Result TokenView TokenFault) → starts_with nat_eq text (codes "..") ≡ false
    → Gives (λ token. token) result (read_full text) → Gives {X = TokenView} {A = TokenView} (λ token. token) result (read_token call text)
read_from_else text call result start gives = subst (Gives {X = TokenView} {A = TokenView} (λ token. token) result) (sym (read_else text call start)) gives

pub refused_dots : (text : List ℕ) (call : CallView) (result : Result TokenView TokenFault) → IsBytes text → starts_with nat_eq text (codes "..") ≡ true
    → Gives (λ token. token) result (read_compact call text) → IfRefused result (Refused text call)
refused_dots text call result bytes start gives = answer_refused text call result bytes (read_from_dots text call result start gives)

pub refused_else : (text : List ℕ) (call : CallView) (result : Result TokenView TokenFault) → IsBytes text → starts_with nat_eq text (codes "..") ≡ false
    → Gives (λ token. token) result (read_full text) → IfRefused result (Refused text call)
refused_else text call result bytes start gives = answer_refused text call result bytes (read_from_else text call result start gives)

pub only_refused_dots : (text : List ℕ) (call : CallView) (result : Result TokenView TokenFault) → IsBytes text → starts_with nat_eq text (codes "..") ≡ true
    → Gives (λ token. token) result (read_compact call text) → (fault : TokenFault) → Refused text call fault
    → Gives {X = TokenView} {A = TokenView} (λ token. token) result (Err fault)
only_refused_dots text call result bytes start gives = answer_only text call result bytes (read_from_dots text call result start gives)

pub only_refused_else : (text : List ℕ) (call : CallView) (result : Result TokenView TokenFault) → IsBytes text → starts_with nat_eq text (codes "..") ≡ false
    → Gives (λ token. token) result (read_full text) → (fault : TokenFault) → Refused text call fault
    → Gives {X = TokenView} {A = TokenView} (λ token. token) result (Err fault)
only_refused_else text call result bytes start gives = answer_only text call result bytes (read_from_else text call result start gives)
