-- The base64url text of bytes (RFC 4648, section 5, without padding and without spare bits).
use Rattle.std.specs.Prelude.{◌≡◌, ℕ, List}
use Rattle.base64.specs.Engines.{url_safe_no_pad}
use Rattle.base64.specs.GeneralPurpose.{encode_of, IsBytes}

-- the text is the base64url encoding of these bytes, without padding and without spare bits
pub record IsBase64 (text bytes : List ℕ) : Type 0 where
  pub are_bytes : IsBytes bytes
  pub encoded : text ≡ encode_of url_safe_no_pad bytes
