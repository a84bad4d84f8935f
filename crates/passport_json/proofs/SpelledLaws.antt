-- What is written as a token is one, and is written in symbols.
use Rattle.std.proofs.Common.{◌≡◌, ℕ, suc, ◌≤◌, ◌+◌, ◌*◌, ◌/◌, ◌%◌, Bool, true, List, [], ◌∷◌, length, Some, refl, ap, ◌∙◌, arith, append_assoc, length-append}
use Rattle.std.specs.List.{list_all}
use Rattle.std.specs.Prelude.{slice_index}
use Rattle.std.proofs.lemmas.Bool.Decides.{nat_tests}
use Rattle.std.proofs.lemmas.List.{append-nil}
use Rattle.base64.proofs.RoundTrip.{length-encode_symbols}
use Rattle.base64.proofs.Tables.{all_below_at}
use Rattle.base64.specs.Engines.{url_safe_no_pad}
use Rattle.base64.specs.GeneralPurpose.{IsBytes, encode_of}
use Rattle.base64.specs.Rfc4648.{encode_symbols}
use Rattle.base64.specs.Tables.{all_below}
use Rattle.serde_json.specs.Data.{Data}
use Rattle.passport_json.specs.Base64.{IsBase64}
use Rattle.passport_json.specs.Compact.{CallView, CompactText, base_of, rebuilt}
use Rattle.passport_json.specs.Parts.{PartTexts, dot}
use Rattle.passport_json.specs.Passport.{PassportView}
use Rattle.passport_json.specs.Signing.{Signing}
use Rattle.passport_json.specs.Spelled.{IsSignature, IsSpelled, compact_text, full_text, full_token, is_symbol, is_token_byte}
use Rattle.passport_json.specs.Token.{FullText}
use Rattle.lists.proofs.Bytes.{all_append, each}
use Rattle.text_grammar.specs.Grammar.{Run}
use Rattle.passport_json.proofs.SignedLaws.{encoded_lacks}
use Rattle.passport_json.proofs.TokenLaws.{not_empty}

-- ---- the symbols

in_table : (p : ℕ → Bool) (t bytes : List ℕ) → all_below (λ i. p (slice_index t i)) 64 ≡ true → IsBytes bytes → list_all p (encode_symbols t bytes) ≡ true
unfolding encode_symbols
in_table p t [] all bytes = refl
in_table p t (a ∷ []) all bytes =
    let f = bytes 0 in
    rw (all_below_at (λ i. p (slice_index t i)) 64 (a / 4) all (omega arith), all_below_at (λ i. p (slice_index t i)) 64 (a % 4 * 16) all (omega arith)) refl
in_table p t (a ∷ b ∷ []) all bytes =
    let f = bytes 0 in
    let g = bytes 1 in
    rw (
      all_below_at (λ i. p (slice_index t i)) 64 (a / 4) all (omega arith),
      all_below_at (λ i. p (slice_index t i)) 64 (a % 4 * 16 + b / 16) all (omega arith),
      all_below_at (λ i. p (slice_index t i)) 64 (b % 16 * 4) all (omega arith),
    ) refl
in_table p t (a ∷ b ∷ c ∷ rest) all bytes =
    let f = bytes 0 in
    let g = bytes 1 in
    let h = bytes 2 in
    rw (
      all_below_at (λ i. p (slice_index t i)) 64 (a / 4) all (omega arith),
      all_below_at (λ i. p (slice_index t i)) 64 (a % 4 * 16 + b / 16) all (omega arith),
      all_below_at (λ i. p (slice_index t i)) 64 (b % 16 * 4 + c / 64) all (omega arith),
      all_below_at (λ i. p (slice_index t i)) 64 (c % 64) all (omega arith),
      in_table p t rest all (λ i. bytes (suc (suc (suc i)))),
    ) refl

without_padding : (bytes : List ℕ) → encode_of url_safe_no_pad bytes ≡ encode_symbols url_safe_no_pad.encode_table bytes
without_padding bytes = append-nil (encode_symbols url_safe_no_pad.encode_table bytes)

pub symbols : (bytes : List ℕ) → IsBytes bytes → list_all is_symbol (encode_of url_safe_no_pad bytes) ≡ true
symbols bytes are = ap (list_all is_symbol) (without_padding bytes) ∙ in_table is_symbol url_safe_no_pad.encode_table bytes refl are

pub symbols_length : (bytes : List ℕ) → length (encode_of url_safe_no_pad bytes) ≡ (4 * length bytes + 2) / 3
symbols_length bytes = ap length (without_padding bytes) ∙ length-encode_symbols url_safe_no_pad.encode_table bytes

-- ---- the two forms

abbrev texts : List ℕ → List ℕ → List ℕ → PartTexts
texts header payload signature = record {
  header = encode_of url_safe_no_pad header;
  payload = encode_of url_safe_no_pad payload;
  signature = encode_of url_safe_no_pad signature;
}

pub full_is_token : (header_text payload_text signature : List ℕ) (header payload : Data) → IsSpelled header_text header → IsSpelled payload_text payload → IsSignature signature
    → FullText (full_text (Signing header_text payload_text) signature) (full_token header payload header_text payload_text signature)
full_is_token header_text payload_text signature header payload h p s =
    let of_header : IsBase64 (encode_of url_safe_no_pad header_text) header_text = record { are_bytes = h.bytes; encoded = refl } in
    let of_payload : IsBase64 (encode_of url_safe_no_pad payload_text) payload_text = record { are_bytes = p.bytes; encoded = refl } in
    record {
      parts = texts header_text payload_text signature;
      header_bytes = header_text;
      payload_bytes = payload_text;
      are_parts = record {
        joined = append_assoc (encode_of url_safe_no_pad header_text) (dot ∷ encode_of url_safe_no_pad payload_text) (dot ∷ encode_of url_safe_no_pad signature);
        header = encoded_lacks header_text;
        payload = encoded_lacks payload_text;
        signature = encoded_lacks signature;
      };
      has_header = not_empty (encode_of url_safe_no_pad header_text) header_text header of_header h.object;
      has_payload = not_empty (encode_of url_safe_no_pad payload_text) payload_text payload of_payload p.object;
      header_encoded = of_header;
      payload_encoded = of_payload;
      signature_encoded = record { are_bytes = s.bytes; encoded = refl };
      signature_length = s.size;
      header_object = h.object;
      payload_object = p.object;
      signing_received = refl;
      is_full = refl;
    }

pub compact_is_token : (signature : List ℕ) (call : CallView) (passport : PassportView) → IsSignature signature → base_of call ≡ Some passport
    → CompactText (compact_text signature) call (rebuilt passport signature)
compact_is_token signature call passport s is = record {
  signature_text = encode_of url_safe_no_pad signature;
  passport = passport;
  are_parts = record { joined = refl; header = refl; payload = refl; signature = encoded_lacks signature };
  signature_encoded = record { are_bytes = s.bytes; encoded = refl };
  signature_length = s.size;
  is_base = is;
  is_rebuilt = refl;
}

-- ---- their bytes and their sizes

symbol_of_token : (b : ℕ) → is_symbol b ≡ true → is_token_byte b ≡ true
symbol_of_token b h = grind (arith, nat_tests)

encoded_bytes : (bytes : List ℕ) → IsBytes bytes → list_all is_token_byte (encode_of url_safe_no_pad bytes) ≡ true
encoded_bytes bytes are = each is_symbol is_token_byte symbol_of_token (encode_of url_safe_no_pad bytes) (symbols bytes are)

pub full_run : (header payload signature : List ℕ) → IsBytes header → IsBytes payload → IsSignature signature → length header + length payload ≤ 6000
    → Run is_token_byte 8192 (full_text (Signing header payload) signature)
full_run header payload signature h p s short =
    let of_signing = length-append (encode_of url_safe_no_pad header) (dot ∷ encode_of url_safe_no_pad payload) in
    let of_text = length-append (Signing header payload) (dot ∷ encode_of url_safe_no_pad signature) in
    record {
      each = all_append is_token_byte (Signing header payload) (dot ∷ encode_of url_safe_no_pad signature)
          (all_append is_token_byte (encode_of url_safe_no_pad header) (dot ∷ encode_of url_safe_no_pad payload) (encoded_bytes header h) (encoded_bytes payload p))
          (encoded_bytes signature s.bytes);
      some = omega (arith, of_text);
      within = omega (arith, of_text, of_signing, symbols_length header, symbols_length payload, symbols_length signature, s.size, short);
    }

pub full_size : (signing signature : List ℕ) → IsSignature signature → length (full_text signing signature) ≡ length signing + 87
full_size signing signature s = omega (arith, length-append signing (dot ∷ encode_of url_safe_no_pad signature), symbols_length signature, s.size)

pub compact_size : (signature : List ℕ) → IsSignature signature → length (compact_text signature) ≡ 88
compact_size signature s = omega (arith, symbols_length signature, s.size)

pub compact_run : (signature : List ℕ) → IsSignature signature → Run is_token_byte 8192 (compact_text signature)
compact_run signature s =
    let size = compact_size signature s in
    record { each = encoded_bytes signature s.bytes; some = omega (arith, size); within = omega (arith, size) }
