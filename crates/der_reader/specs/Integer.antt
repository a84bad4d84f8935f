-- A DER INTEGER that isn't negative: X.690, section 8.3, as two's complement in the fewest bytes.
use Rattle.std.specs.Prelude.{◌≡◌, ℕ, zero, suc, ◌+◌, ◌-◌, ◌*◌, ◌/◌, ◌%◌, ◌^◌, ◌<◌, ◌≤◌, Bool, ◌&&◌, ◌||◌, ◌==◌, List}
use Rattle.std.specs.Prelude.{[], ◌∷◌, ◌++◌, length, drop, replicate, nat_lt, nat_le, slice_index, fold, Result, Ok}
use Rattle.std.specs.Prelude.{Err, if◌then◌else◌}
use Rattle.der_reader.specs.declared.fault.DerFault.{DerFault}
use Rattle.der_reader.specs.Fault.{bad_value}
use Rattle.der_reader.specs.Tags.{integer_tag}

-- the number that the bytes are, the highest first
abbrev pub big_endian : List ℕ → ℕ
big_endian bytes = fold (λ number byte. number * 0x100 + byte) 0 bytes

-- The content is the number: at least one byte, the first below 0x80, since otherwise the number is
-- negative, and a first byte 00 only alone or before a byte of at least 0x80.
pub record IntegerText (content : List ℕ) (number : ℕ) : Type 0 where
  pub value : big_endian content ≡ number
  pub some : 0 < length content
  pub not_negative : slice_index content 0 < 0x80
  pub minimal : 1 < length content → slice_index content 0 ≡ 0 → 0x80 ≤ slice_index content 1

-- whether the content is such a number's
abbrev pub is_integer_text : List ℕ → Bool
is_integer_text content =
    nat_lt 0 (length content) && nat_lt (slice_index content 0) 0x80
    && (nat_lt (length content) 2 || nat_lt 0 (slice_index content 0) || nat_le 0x80 (slice_index content 1))

-- what `Der::unsigned` reads: an INTEGER (tag 02) below 2 ^ 64
unfoldable pub unsigned_of : ℕ → List ℕ → Result ℕ DerFault
unsigned_of tag content =
    if (tag == integer_tag) && is_integer_text content && nat_lt (big_endian content) (2 ^ 64)
    then Ok (big_endian content)
    else Err bad_value

-- the number's bytes, without the byte 00 that keeps a high bit from meaning a negative number
abbrev pub magnitude : List ℕ → List ℕ
magnitude content =
    if nat_lt 1 (length content) && (slice_index content 0 == 0) then drop 1 content else content

-- what `Der::scalar` reads: an INTEGER (tag 02) of at most 32 bytes, after zeros
unfoldable pub scalar_of : ℕ → List ℕ → Result (List ℕ) DerFault
scalar_of tag content =
    if (tag == integer_tag) && is_integer_text content && nat_le (length (magnitude content)) 32
    then Ok (replicate (32 - length (magnitude content)) 0 ++ magnitude content)
    else Err bad_value

-- at most so many bytes and one more, the highest first; only the first is below 0x80 for the sign's sake
abbrev pub integer_within : ℕ → ℕ → List ℕ
integer_within zero number = number ∷ []
integer_within (suc bytes) number =
    if nat_lt number 0x80 then number ∷ []
    else integer_within bytes (number / 0x100) ++ number % 0x100 ∷ []

-- the content of the INTEGER of a number: its fewest bytes, the highest first and below 0x80 (X.690, section 8.3)
unfoldable pub integer_content : ℕ → List ℕ
integer_content number = integer_within number number
