-- What is signed, and its digest (RFC 7515, section 2: JWS Signing Input; RFC 4648, section 5; FIPS 180-4).
use Rattle.std.specs.Prelude.{ℕ, List, ◌∷◌, ◌++◌}
use Rattle.base64.specs.Engines.{url_safe_no_pad}
use Rattle.base64.specs.GeneralPurpose.{encode_of}
use Rattle.sha2.specs.Sha256.{sha256}
use Rattle.passport_json.specs.Parts.{dot}

-- base64url of the header, a dot, base64url of the payload
abbrev pub Signing : List ℕ → List ℕ → List ℕ
Signing header payload = encode_of url_safe_no_pad header ++ dot ∷ encode_of url_safe_no_pad payload

-- the SHA-256 of what was signed, by which a PASSporT is known again (this project's own rule)
abbrev pub Ticket : List ℕ → List ℕ
Ticket signing = sha256 signing
