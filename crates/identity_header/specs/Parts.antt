-- The four parts of an Identity value (RFC 8224, section 4.1), and the bytes and the length of each, which are this
-- project's own limits.
use Rattle.std.specs.Prelude.{ℕ, Bool, not, ◌||◌, ◌&&◌, ◌==◌, nat_le, List, Option, IfSome}
use Rattle.text_grammar.specs.Bytes.{is_letter, is_digit, is_uri_byte}
use Rattle.text_grammar.specs.Grammar.{Any, Run}

-- the signed token, the uri of the certificates, and the values of the parameters alg and ppt
pub record Parts : Type 0 where
  pub token : List ℕ
  pub info : List ℕ
  pub alg : Option (List ℕ)
  pub ppt : Option (List ℕ)

abbrev pub parts : List ℕ → List ℕ → Option (List ℕ) → Option (List ℕ) → Parts
parts token info alg ppt = record { token = token; info = info; alg = alg; ppt = ppt }

-- letters, digits, - _ .
abbrev pub is_digest_byte : ℕ → Bool
is_digest_byte b = is_letter b || is_digit b || b == 45 || b == 95 || b == 46

-- visible ASCII without ; , " < > and backslash
abbrev pub is_bare_byte : ℕ → Bool
is_bare_byte b = nat_le 33 b && nat_le b 126 && not (b == 59 || b == 44 || b == 34 || b == 60 || b == 62 || b == 92)

-- a byte from the space on, without ", backslash and 0x7F
abbrev pub is_quoted_byte : ℕ → Bool
is_quoted_byte b = nat_le 32 b && nat_le b 255 && not (b == 34 || b == 92 || b == 127)

-- Each part has its bytes and its length: the token 1 to 8192 digest bytes, the uri 1 to 2048 uri bytes, and a value of
-- alg or ppt any number of bytes that may be between quotes, also none.
pub record InRows (f : Parts) : Type 0 where
  pub token : Run is_digest_byte 8192 f.token
  pub info : Run is_uri_byte 2048 f.info
  pub alg : IfSome f.alg (Any is_quoted_byte)
  pub ppt : IfSome f.ppt (Any is_quoted_byte)
