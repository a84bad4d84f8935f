-- The certificates of the drill (this project's own rule, in the terms of RFC 5280, section 4.1, and RFC 8226, section
-- 9). Their signatures aren't real ones: what confirms them is the answers.
use Rattle.std.specs.Prelude.{ℕ, List, [], ◌∷◌, ◌++◌, codes, replicate}
use Rattle.sha2.specs.Sha256.{sha256}
use Rattle.der_reader.specs.Elem.{element_text}
use Rattle.der_reader.specs.Tags.{bit_string_tag, boolean_tag, integer_tag, object_identifier_tag, octet_string_tag}
use Rattle.der_reader.specs.Tags.{sequence_tag, utc_time_tag}
use Rattle.tn_auth_list.specs.ListText.{list_text}
use Rattle.tn_auth_list.specs.declared.entries.Entry.TheVariants.{Range}

-- A certificate: its holder and who issued it, one letter each, its extensions, and a byte of which serial number, key
-- and signature are made.
pub record Recipe : Type 0 where
  pub subject : ℕ
  pub issuer : ℕ
  pub byte : ℕ
  pub extensions : List ℕ

abbrev pub recipe : ℕ → ℕ → ℕ → List ℕ → Recipe
recipe subject issuer byte extensions =
    record { subject = subject; issuer = issuer; byte = byte; extensions = extensions }

-- ---- parts of one text

abbrev pub identifier : List ℕ → List ℕ
identifier bytes = element_text object_identifier_tag bytes

-- version 3, by its explicit tag (RFC 5280, section 4.1.2.1)
abbrev pub version : List ℕ
version = element_text 0xA0 (element_text integer_tag (2 ∷ []))

-- ecdsa-with-SHA256, 1.2.840.10045.4.3.2, without parameters (RFC 5758, section 3.2)
abbrev pub algorithm : List ℕ
algorithm = element_text sequence_tag (identifier (0x2A ∷ 0x86 ∷ 0x48 ∷ 0xCE ∷ 0x3D ∷ 0x04 ∷ 0x03 ∷ 0x02 ∷ []))

-- the name whose one attribute is commonName, 2.5.4.3, a UTF8String (tag 0C) of one letter (RFC 5280, section 4.1.2.4)
abbrev pub name : ℕ → List ℕ
name letter = element_text sequence_tag (element_text 0x31 (element_text sequence_tag
    (identifier (0x55 ∷ 0x04 ∷ 0x03 ∷ []) ++ element_text 0x0C (letter ∷ []))))

-- the years 2015 to 2024 (RFC 5280, section 4.1.2.5)
abbrev pub validity : List ℕ
validity = element_text sequence_tag (element_text utc_time_tag (codes "150101000000Z")
    ++ element_text utc_time_tag (codes "250101000000Z"))

-- an uncompressed point: 04 and the coordinates, all of whose bytes are this one (SEC 1, section 2.3.3)
abbrev pub point : ℕ → List ℕ
point byte = 4 ∷ replicate 64 byte

-- the key: id-ecPublicKey, 1.2.840.10045.2.1, on the curve prime256v1, 1.2.840.10045.3.1.7, and the point (RFC 5480,
-- section 2)
abbrev pub key : ℕ → List ℕ
key byte = element_text sequence_tag (
    element_text sequence_tag (identifier (0x2A ∷ 0x86 ∷ 0x48 ∷ 0xCE ∷ 0x3D ∷ 0x02 ∷ 0x01 ∷ [])
    ++ identifier (0x2A ∷ 0x86 ∷ 0x48 ∷ 0xCE ∷ 0x3D ∷ 0x03 ∷ 0x01 ∷ 0x07 ∷ []))
    ++ element_text bit_string_tag (0 ∷ point byte))

-- the signature: a BIT STRING of a SEQUENCE of two INTEGERs, both of which are this byte (RFC 5480, appendix A)
abbrev pub signature : ℕ → List ℕ
signature byte = element_text bit_string_tag (0
    ∷ element_text sequence_tag (element_text integer_tag (byte ∷ []) ++ element_text integer_tag (byte ∷ [])))

-- the two numbers of the signature, 32 bytes each, the highest first
abbrev pub scalars : ℕ → List ℕ
scalars byte = replicate 31 0 ++ byte ∷ (replicate 31 0 ++ byte ∷ [])

-- ---- extensions

abbrev pub extensions : List ℕ → List ℕ
extensions extension = element_text 0xA3 (element_text sequence_tag extension)

-- basicConstraints, 2.5.29.19, critical: cA is true (RFC 5280, section 4.2.1.9)
abbrev pub authority_extension : List ℕ
authority_extension = element_text sequence_tag (identifier (0x55 ∷ 0x1D ∷ 0x13 ∷ []) ++ element_text boolean_tag
    (0xFF ∷ []) ++ element_text octet_string_tag (element_text sequence_tag (element_text boolean_tag (0xFF ∷ []))))

-- TNAuthorizationList, 1.3.6.1.5.5.7.1.26, not critical (RFC 8226, section 9): the 10,000 numbers from 12155550000 on
abbrev pub numbers : List ℕ
numbers = list_text (Range (record { start = codes "12155550000"; size = 10000 }) ∷ [])

abbrev pub numbers_extension : List ℕ
numbers_extension = element_text sequence_tag (identifier (0x2B ∷ 0x06 ∷ 0x01 ∷ 0x05 ∷ 0x05 ∷ 0x07 ∷ 0x01 ∷ 0x1A ∷ [])
    ++ element_text octet_string_tag numbers)

-- ---- a certificate

abbrev pub signed_content : Recipe → List ℕ
signed_content recipe = version ++ element_text integer_tag (recipe.byte ∷ []) ++ algorithm ++ name recipe.issuer
    ++ validity ++ name recipe.subject ++ key recipe.byte ++ recipe.extensions

-- the part that is signed
abbrev pub signed_text : Recipe → List ℕ
signed_text recipe = element_text sequence_tag (signed_content recipe)

abbrev pub certificate_text : Recipe → List ℕ
certificate_text recipe = element_text sequence_tag (signed_text recipe ++ algorithm ++ signature recipe.byte)

-- ---- the three certificates: R, which is the trust anchor, I, which R issued, and D, the leaf, which I issued

abbrev pub root : Recipe
root = recipe 82 82 1 (extensions authority_extension)

abbrev pub intermediate : Recipe
intermediate = recipe 73 82 2 (extensions authority_extension)

abbrev pub leaf : Recipe
leaf = recipe 68 73 4 (extensions numbers_extension)

-- what of a certificate is signed
abbrev pub digest : Recipe → List ℕ
digest recipe = sha256 (signed_text recipe)
