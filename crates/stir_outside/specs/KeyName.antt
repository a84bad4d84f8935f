-- The name of a signing key (this project's own rule).
use Rattle.std.specs.Prelude.{ℕ, Bool, not, ◌&&◌, ◌||◌, ◌==◌, nat_le, List, length, Option, Some, None, if◌then◌else◌}
use Rattle.std.specs.List.{list_all}

-- a visible ASCII character other than `;`, `,`, `"`, `<`, `>` and backslash
abbrev pub is_name_byte : ℕ → Bool
is_name_byte byte = nat_le 0x21 byte && nat_le byte 0x7E
    && not (byte == 59 || byte == 44 || byte == 34 || byte == 60 || byte == 62 || byte == 92)

-- 1 to 64 such bytes
unfoldable pub is_name : List ℕ → Bool
is_name text = nat_le 1 (length text) && nat_le (length text) 64 && list_all is_name_byte text

-- the name that a text is, byte for byte, if it is one
abbrev pub name_of : List ℕ → Option (List ℕ)
name_of text = if is_name text then Some text else None
