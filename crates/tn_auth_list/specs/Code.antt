-- Service provider codes: `ServiceProviderCode` of RFC 8226, section 9, an IA5String. That it is visible ASCII, without
-- a blank and at most 32 bytes long, is this project's own rule.
use Rattle.std.specs.Prelude.{ℕ, Bool, ◌&&◌, nat_le, List, length, Option, Some, None, if◌then◌else◌}
use Rattle.std.specs.List.{list_all}

-- a visible ASCII character, from `!` to `~`
abbrev pub is_code_byte : ℕ → Bool
is_code_byte byte = nat_le 0x21 byte && nat_le byte 0x7E

-- a code: 1 to 32 bytes, each visible ASCII
unfoldable pub is_code : List ℕ → Bool
is_code text = nat_le 1 (length text) && nat_le (length text) 32 && list_all is_code_byte text

-- the code that a text is, byte for byte, if it is one
abbrev pub code_of : List ℕ → Option (List ℕ)
code_of text = if is_code text then Some text else None
