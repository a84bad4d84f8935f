-- Which bytes the parts of a message head may have (RFC 3261, section 25.1; what a URI may hold is this project's own
-- leniency).
use Rattle.std.specs.Prelude.{ℕ, Bool, ◌==◌, nat_lt, ◌&&◌, not, List}
use Rattle.std.specs.List.{list_all}
use Rattle.text_grammar.specs.Bytes.{is_empty, is_name_byte}

-- a name of a method or of a header field: 1 or more name bytes
abbrev pub is_name : List ℕ → Bool
is_name text = not (is_empty text) && list_all is_name_byte text

-- a byte of the URI of a start line: above the space, and not the delete byte
abbrev pub is_target_byte : ℕ → Bool
is_target_byte byte = nat_lt 32 byte && not (byte == 127)

-- the URI of a start line: 1 or more such bytes
abbrev pub is_target : List ℕ → Bool
is_target text = not (is_empty text) && list_all is_target_byte text
