-- Decimal digits, `DIGIT` of RFC 5234 appendix B.1.
use Rattle.std.specs.Prelude.{ℕ, Bool, ◌&&◌, nat_le, List}
use Rattle.std.specs.List.{list_all}

-- a byte from `0` to `9`
abbrev pub is_digit : ℕ → Bool
is_digit byte = nat_le 48 byte && nat_le byte 57

-- a text of digits alone; the empty text is one
abbrev pub are_digits : List ℕ → Bool
are_digits text = list_all is_digit text
