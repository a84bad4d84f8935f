-- A DER BIT STRING: X.690, sections 8.6 and 11.2.1.
use Rattle.std.specs.Prelude.{◌≡◌, ℕ, ◌+◌, ◌-◌, ◌*◌, ◌/◌, ◌%◌, ◌^◌, ◌<◌, ◌≤◌, Bool, ◌&&◌, ◌||◌, ◌==◌, List, [], ◌∷◌}
use Rattle.std.specs.Prelude.{length, drop, nat_lt, nat_le, slice_index, Result, Ok, Err, if◌then◌else◌}
use Rattle.std.specs.Int.{w16, bit_at, reverse_bits}
use Rattle.std.specs.Borrow.{Bor}
use Rattle.der_reader.specs.declared.fault.DerFault.{DerFault}
use Rattle.der_reader.specs.Fault.{bad_value}
use Rattle.der_reader.specs.Tags.{bit_string_tag}

-- The content is the string of these bytes without the last unused bits: the first byte counts the
-- unused bits, 0 to 7 and 0 for an empty string, and they are zero.
pub record BitText (content : List ℕ) (unused : ℕ) (bytes : List ℕ) : Type 0 where
  pub text : content ≡ unused ∷ bytes
  pub count : unused < 8
  pub empty : bytes ≡ [] → unused ≡ 0
  pub zeros : slice_index bytes (length bytes - 1) % 2 ^ unused ≡ 0

-- bit number i of a string; bit 0 is the highest of the first byte (X.690, section 8.6.2)
abbrev pub string_bit : List ℕ → ℕ → ℕ
string_bit bytes i = bit_at (slice_index bytes (i / 8)) (7 - i % 8)

-- what `Der::bits` reads: a BIT STRING (tag 03) with no unused bits
unfoldable pub bits_of : ℕ → List ℕ → Result (List ℕ) DerFault
bits_of tag content =
    if (tag == bit_string_tag) && nat_lt 0 (length content) && (slice_index content 0 == 0)
    then Ok (drop 1 content)
    else Err bad_value

-- whether the content is a bit string's
abbrev pub is_bit_text : List ℕ → Bool
is_bit_text content =
    nat_lt 0 (length content) && nat_lt (slice_index content 0) 8
    && (nat_lt 1 (length content) || (slice_index content 0 == 0))
    && (nat_le (length content) 1
    || (slice_index content (length content - 1) % 2 ^ slice_index content 0 == 0))

-- The content is a string of at most 16 bits, and bit i of the string is bit i of the number; the
-- number's bits past the string's end are 0.
pub record FlagsText (content : List ℕ) (flags : ℕ) : Type 0 where
  pub unused : ℕ
  pub bytes : List ℕ
  pub text : BitText content unused bytes
  pub few : 8 * length bytes ≤ 16 + unused
  pub bits : (i : ℕ) → i < 16 → bit_at flags i ≡ string_bit bytes i

-- the flags of such a content
unfoldable pub flags_in : List ℕ → Result ℕ DerFault
flags_in content =
    if is_bit_text content && nat_le (length content) 3
    then Ok (reverse_bits w16 (slice_index content 1 * 0x100 + slice_index content 2))
    else Err bad_value

-- what `Der::flags` reads: a BIT STRING (tag 03) of at most 16 bits
abbrev pub flags_of : ℕ → List ℕ → Result ℕ DerFault
flags_of tag content = if tag == bit_string_tag then flags_in content else Err bad_value

-- an answer of `Der::bits` as plain data
abbrev pub bits_view : Result (Bor (List ℕ)) DerFault → Result (List ℕ) DerFault
bits_view (Ok bits) = Ok bits.now
bits_view (Err fault) = Err fault
