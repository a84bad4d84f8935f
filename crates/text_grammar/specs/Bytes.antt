-- Classes of bytes that several text formats share.
use Rattle.std.specs.Prelude.{ℕ, Bool, true, false, not, ◌||◌, ◌&&◌, ◌==◌, nat_le, List, [], ◌∷◌, map}
use Rattle.std.specs.Char.{to_ascii_lowercase}
use Rattle.std.specs.Str.{bytes_eq}

abbrev pub is_empty : List ℕ → Bool
is_empty [] = true
is_empty (first ∷ more) = false

-- space or tab
abbrev pub is_blank : ℕ → Bool
is_blank b = b == 32 || b == 9

abbrev pub is_letter : ℕ → Bool
is_letter b = (nat_le 65 b && nat_le b 90) || (nat_le 97 b && nat_le b 122)

abbrev pub is_digit : ℕ → Bool
is_digit b = nat_le 48 b && nat_le b 57

-- visible ASCII
abbrev pub is_visible : ℕ → Bool
is_visible b = nat_le 33 b && nat_le b 126

-- visible ASCII without `"`, `<`, `>` and backslash
abbrev pub is_uri_byte : ℕ → Bool
is_uri_byte b = is_visible b && not (b == 34 || b == 60 || b == 62 || b == 92)

-- the byte with a letter A to Z as a to z
abbrev pub lower : ℕ → ℕ
lower = to_ascii_lowercase

-- Whether a text is this word, which is written in small letters here, in letters of either case.
abbrev pub is_word : List ℕ → List ℕ → Bool
is_word word text = bytes_eq (map lower text) word

-- a byte of a token of RFC 3261, section 25.1: letters, digits and - . ! % * _ + ' ~ and the backquote
abbrev pub is_name_byte : ℕ → Bool
is_name_byte b =
    is_letter b || is_digit b || b == 45 || b == 46 || b == 33 || b == 37 || b == 42 || b == 95 || b == 43 || b == 39
    || b == 126 || b == 96
