-- The parts of a certificate of the profile, as texts (RFC 5280, section 4.1, in DER).
use Rattle.std.specs.Prelude.{◌≡◌, ℕ, ℤ, List, ◌∷◌, ◌++◌, length, Ok}
use Rattle.der_reader.specs.BitString.{BitText}
use Rattle.der_reader.specs.Elem.{Elem, Element, IsPair}
use Rattle.der_reader.specs.Integer.{scalar_of}
use Rattle.der_reader.specs.Time.{TimeText}
use Rattle.der_reader.specs.Tags.{bit_string_tag}
use Rattle.x509_profile.specs.Text.{key_front}

-- any element of this tag
pub record AnyElement (text : List ℕ) (tag : ℕ) : Type 0 where
  pub content : List ℕ
  pub elem : Elem text tag content

-- a validity: a SEQUENCE of two times, which are so many seconds from 1970 (section 4.1.2.5)
pub record ValidityText (text : List ℕ) (not_before not_after : ℤ) : Type 0 where
  pub first : Element
  pub second : Element
  pub both : IsPair text first second
  pub from : TimeText first.tag first.content not_before
  pub until : TimeText second.tag second.content not_after

-- a key: the fixed prefix and 64 bytes; the point is the prefix's last byte, 04, and these
pub record KeyText (text : List ℕ) (point : List ℕ) : Type 0 where
  pub coordinates : List ℕ
  pub form : text ≡ key_front ++ coordinates
  pub size : length coordinates ≡ 64
  pub value : point ≡ 0x04 ∷ coordinates

-- a signature: a BIT STRING without unused bits, whose bytes are a SEQUENCE of two INTEGERs from 0 up to 2 ^ 256 - 1,
-- which are 32 bytes each (section 4.1.1.3, RFC 5480 appendix A)
pub record SignatureText (text : List ℕ) (signature : List ℕ) : Type 0 where
  pub content : List ℕ
  pub bits : List ℕ
  pub first : Element
  pub second : Element
  pub r : List ℕ
  pub s : List ℕ
  pub elem : Elem text bit_string_tag content
  pub string : BitText content 0 bits
  pub both : IsPair bits first second
  pub is_r : scalar_of first.tag first.content ≡ Ok r
  pub is_s : scalar_of second.tag second.content ≡ Ok s
  pub value : signature ≡ r ++ s
