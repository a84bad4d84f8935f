-- Telephone numbers: `TelephoneNumber` of RFC 8226, section 9, which is also the canonical form of RFC 8224, section
-- 8.3.
use Rattle.std.specs.Prelude.{ℕ, Bool, ◌&&◌, ◌||◌, ◌==◌, nat_le, List, length, Option, Some, None, if◌then◌else◌}
use Rattle.std.specs.List.{list_all}
use Rattle.tn_values.specs.Digit.{is_digit}

-- a digit, `*` or `#`
abbrev pub is_number_byte : ℕ → Bool
is_number_byte byte = is_digit byte || byte == 42 || byte == 35

-- a number: 1 to 15 bytes, each a digit, `*` or `#`
unfoldable pub is_number : List ℕ → Bool
is_number text = nat_le 1 (length text) && nat_le (length text) 15 && list_all is_number_byte text

-- the number that a text is, byte for byte, if it is one
abbrev pub exact : List ℕ → Option (List ℕ)
exact text = if is_number text then Some text else None
