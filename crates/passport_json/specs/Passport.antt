-- The deterministic header and payload of a PASSporT (RFC 8225, sections 4, 5 and 9; RFC 8588, section 4; RFC 8946,
-- section 4.1): which members they have, in byte order of their names.
use Rattle.std.specs.Prelude.{ℕ, List, [], ◌∷◌, Option, Some, None, codes}
use Rattle.serde_json.specs.Data.{Data, number, string, array, object, unsigned, Items, no_items, item, Members}
use Rattle.serde_json.specs.Data.{no_members, member}

-- what a PASSporT claims: its type if it has one, the certificate's URI, the attestation and the call's identifier
-- (`shaken`), the called numbers, the number that was diverted (`div`), when it was issued in Unix seconds, and the
-- calling number
pub record PassportView : Type 0 where
  pub ppt : Option (List ℕ)
  pub x5u : List ℕ
  pub attest : Option (List ℕ)
  pub dest : List (List ℕ)
  pub div : Option (List ℕ)
  pub iat : ℕ
  pub orig : List ℕ
  pub origid : Option (List ℕ)

-- the texts of an array
abbrev pub texts : List (List ℕ) → Items
texts [] = no_items
texts (text ∷ rest) = item (string text) (texts rest)

-- the object whose one member is `tn`
abbrev pub with_tn : Data → Data
with_tn value = object (member (codes "tn") value no_members)

abbrev pub number_object : List ℕ → Data
number_object digits = with_tn (string digits)

-- a member, if there is a value for it
abbrev pub optional : List ℕ → Option Data → Members → Members
optional name None rest = rest
optional name (Some value) rest = member name value rest

abbrev pub text_where : Option (List ℕ) → Option Data
text_where None = None
text_where (Some text) = Some (string text)

abbrev pub number_where : Option (List ℕ) → Option Data
number_where None = None
number_where (Some digits) = Some (number_object digits)

-- `alg`, `ppt` if there is one, `typ` and `x5u`
abbrev pub Header : PassportView → Data
Header passport = object
    (member (codes "alg") (string (codes "ES256"))
    (optional (codes "ppt") (text_where passport.ppt)
    (member (codes "typ") (string (codes "passport"))
    (member (codes "x5u") (string passport.x5u) no_members))))

-- `attest` if there is one, `dest`, `div` if there is one, `iat`, `orig`, and `origid` if there is one
abbrev pub Payload : PassportView → Data
Payload passport = object
    (optional (codes "attest") (text_where passport.attest)
    (member (codes "dest") (with_tn (array (texts passport.dest)))
    (optional (codes "div") (number_where passport.div)
    (member (codes "iat") (number (unsigned passport.iat))
    (member (codes "orig") (number_object passport.orig)
    (optional (codes "origid") (text_where passport.origid) no_members))))))
