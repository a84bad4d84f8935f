-- The certificates of the drill, as they are written.
use Rattle.std.proofs.Common.{◌≡◌, ◌≤◌, ℕ, ◌+◌, ◌/◌, ◌%◌, List, [], ◌∷◌, ◌++◌, Bool, true, false, nat_lt, cond, length, replicate, refl, arith, append_assoc, length-append}
use Rattle.der_reader.specs.Elem.{element_text, length_text}
use Rattle.der_reader.specs.Integer.{integer_content}
use Rattle.stir_drill.specs.Certificates.{algorithm, key, name, numbers, version}

-- ---- parts of one text

pub version_is : 0xA0 ∷ 0x03 ∷ 0x02 ∷ 0x01 ∷ 0x02 ∷ [] ≡ version
unfolding length_text
version_is = refl

pub algorithm_is : 0x30 ∷ 0x0A ∷ 0x06 ∷ 0x08 ∷ 0x2A ∷ 0x86 ∷ 0x48 ∷ 0xCE ∷ 0x3D ∷ 0x04 ∷ 0x03 ∷ 0x02 ∷ [] ≡ algorithm
unfolding length_text
algorithm_is = refl

pub algorithm_length : length algorithm ≡ 12
unfolding length_text
algorithm_length = refl

pub version_length : length version ≡ 5
unfolding length_text
version_length = refl

pub name_is : (out : List ℕ) (letter : ℕ)
    → (out ++ 0x30 ∷ 0x0C ∷ 0x31 ∷ 0x0A ∷ 0x30 ∷ 0x08 ∷ 0x06 ∷ 0x03 ∷ 0x55 ∷ 0x04 ∷ 0x03 ∷ 0x0C ∷ 0x01 ∷ []) ++ letter ∷ [] ≡ out ++ name letter
unfolding length_text
name_is out letter =
    append_assoc out (0x30 ∷ 0x0C ∷ 0x31 ∷ 0x0A ∷ 0x30 ∷ 0x08 ∷ 0x06 ∷ 0x03 ∷ 0x55 ∷ 0x04 ∷ 0x03 ∷ 0x0C ∷ 0x01 ∷ []) (letter ∷ [])

pub name_length : (letter : ℕ) → length (name letter) ≡ 14
unfolding length_text
name_length letter = refl

pub key_is : (out : List ℕ) (byte : ℕ)
    → (out ++ 0x30 ∷ 0x59 ∷ 0x30 ∷ 0x13 ∷ 0x06 ∷ 0x07 ∷ 0x2A ∷ 0x86 ∷ 0x48 ∷ 0xCE ∷ 0x3D ∷ 0x02 ∷ 0x01 ∷ 0x06 ∷ 0x08 ∷ 0x2A
    ∷ 0x86 ∷ 0x48 ∷ 0xCE ∷ 0x3D ∷ 0x03 ∷ 0x01 ∷ 0x07 ∷ 0x03 ∷ 0x42 ∷ 0x00 ∷ 0x04 ∷ []) ++ replicate 64 byte ≡ out ++ key byte
unfolding length_text
key_is out byte = append_assoc out (0x30 ∷ 0x59 ∷ 0x30 ∷ 0x13 ∷ 0x06 ∷ 0x07 ∷ 0x2A ∷ 0x86 ∷ 0x48 ∷ 0xCE ∷ 0x3D ∷ 0x02 ∷ 0x01 ∷ 0x06 ∷ 0x08 ∷ 0x2A
    ∷ 0x86 ∷ 0x48 ∷ 0xCE ∷ 0x3D ∷ 0x03 ∷ 0x01 ∷ 0x07 ∷ 0x03 ∷ 0x42 ∷ 0x00 ∷ 0x04 ∷ []) (replicate 64 byte)

pub key_length : (byte : ℕ) → length (key byte) ≡ 91
unfolding length_text
key_length byte = refl

-- ---- lengths

length_short : (size : ℕ) → length (length_text size) ≤ 3
unfolding length_text
length_short size = by_tests (nat_lt size 0x80) (nat_lt size 0x100)
  where
    by_tests : (s t : Bool) → length (cond s (size ∷ []) (cond t (0x81 ∷ size ∷ []) (0x82 ∷ size / 0x100 ∷ size % 0x100 ∷ []))) ≤ 3
    by_tests true t = omega arith
    by_tests false true = omega arith
    by_tests false false = omega arith

pub element_short : (tag : ℕ) (content : List ℕ) → length (element_text tag content) ≤ length content + 4
element_short tag content = omega (arith, length_short (length content), length-append (length_text (length content)) content)

pub numbers_short : length numbers ≤ 40
unfolding length_text integer_content
numbers_short = omega arith
