-- The parts of a certificate that have one text in the profile.
use Rattle.std.specs.Prelude.{ℕ, Bool, ◌&&◌, ◌==◌, List, [], ◌∷◌, length, nat_eq}
use Rattle.std.specs.List.{starts_with}

-- version 3, by its explicit tag (RFC 5280, section 4.1.2.1)
abbrev pub version_text : List ℕ
version_text = 0xA0 ∷ 0x03 ∷ 0x02 ∷ 0x01 ∷ 0x02 ∷ []

-- ecdsa-with-SHA256, without parameters (RFC 5758, section 3.2)
abbrev pub algorithm_text : List ℕ
algorithm_text =
    0x30 ∷ 0x0A ∷ 0x06 ∷ 0x08 ∷ 0x2A ∷ 0x86 ∷ 0x48 ∷ 0xCE ∷ 0x3D ∷ 0x04 ∷ 0x03 ∷ 0x02 ∷ []

-- What comes before the 64 bytes of an uncompressed point: a SEQUENCE of the algorithm, id-ecPublicKey
-- with the curve prime256v1, and of a BIT STRING whose first byte says that the point isn't compressed
-- (RFC 5480, sections 2.1.1 and 2.2).
abbrev pub key_front : List ℕ
key_front =
    0x30 ∷ 0x59 ∷ 0x30 ∷ 0x13
    ∷ 0x06 ∷ 0x07 ∷ 0x2A ∷ 0x86 ∷ 0x48 ∷ 0xCE ∷ 0x3D ∷ 0x02 ∷ 0x01
    ∷ 0x06 ∷ 0x08 ∷ 0x2A ∷ 0x86 ∷ 0x48 ∷ 0xCE ∷ 0x3D ∷ 0x03 ∷ 0x01 ∷ 0x07
    ∷ 0x03 ∷ 0x42 ∷ 0x00 ∷ 0x04 ∷ []

-- whether an element is that of a key
abbrev pub is_key : List ℕ → Bool
is_key text = (length text == 91) && starts_with nat_eq text key_front
