-- A token as it is written (RFC 8225, sections 3 and 7; RFC 7515, section 7.1), in its two forms, and the symbols in
-- which it is.
use Rattle.std.specs.Prelude.{◌≡◌, ℕ, Bool, ◌==◌, ◌||◌, false, List, ◌∷◌, ◌++◌, length}
use Rattle.base64.specs.Engines.{url_safe_no_pad}
use Rattle.base64.specs.GeneralPurpose.{IsBytes, encode_of}
use Rattle.serde_json.specs.Data.{Data}
use Rattle.text_grammar.specs.Bytes.{is_digit, is_letter}
use Rattle.passport_json.specs.Object.{IsObjectText}
use Rattle.passport_json.specs.Parts.{dot}
use Rattle.passport_json.specs.Signing.{Signing}
use Rattle.passport_json.specs.View.{TokenView}

-- a symbol of base64url (RFC 4648, section 5)
abbrev pub is_symbol : ℕ → Bool
is_symbol b = is_letter b || is_digit b || b == 45 || b == 95

-- a byte of a token: a symbol or a dot
abbrev pub is_token_byte : ℕ → Bool
is_token_byte b = is_letter b || is_digit b || b == 45 || b == 95 || b == 46

-- what was signed, a dot, and the signature
abbrev pub full_text : List ℕ → List ℕ → List ℕ
full_text signing signature = signing ++ dot ∷ encode_of url_safe_no_pad signature

-- two dots, and the signature
abbrev pub compact_text : List ℕ → List ℕ
compact_text signature = dot ∷ dot ∷ encode_of url_safe_no_pad signature

-- the token that header and payload are, with their texts and a signature
abbrev pub full_token : Data → Data → List ℕ → List ℕ → List ℕ → TokenView
full_token header payload header_text payload_text signature = record {
  header = header;
  payload = payload;
  signing = Signing header_text payload_text;
  signature = signature;
  compact = false;
}

-- a signature (RFC 7518, section 3.4)
pub record IsSignature (signature : List ℕ) : Type 0 where
  pub bytes : IsBytes signature
  pub size : length signature ≡ 64

-- the text is that of a JSON object, as `deterministic` writes it
pub record IsSpelled (text : List ℕ) (value : Data) : Type 0 where
  pub bytes : IsBytes text
  pub object : IsObjectText text value
