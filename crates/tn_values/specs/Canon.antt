-- The canonical number that a text stands for, after RFC 8224, section 8.3: visual separators (RFC 3966, section 5.1.1)
-- are dropped, and a national number gets the country's digits. That space is a separator too, which texts are
-- national, and that any other number stays as it is, are this project's own rules.
use Rattle.std.specs.Prelude.{◌≡◌, ℕ, Bool, true, not, ◌&&◌, ◌||◌, ◌==◌, List, [], ◌∷◌, ◌++◌, length, filter, Option}
use Rattle.std.specs.Prelude.{None, if◌then◌else◌}
use Rattle.std.specs.Option.{option_map}
use Rattle.tn_values.specs.Digit.{are_digits}
use Rattle.tn_values.specs.Number.{is_number, exact}
use Rattle.tn_values.specs.Local.{LocalView}

-- `(`, `)`, `-`, `.` and space
abbrev pub is_separator : ℕ → Bool
is_separator byte = byte == 40 || byte == 41 || byte == 45 || byte == 46 || byte == 32

-- the byte `+`
abbrev pub plus : ℕ
plus = 43

-- the text with its separators dropped
abbrev pub without_separators : List ℕ → List ℕ
without_separators text = filter (λ byte. not (is_separator byte)) text

-- digits alone, and as many as a national number has
abbrev pub is_national : List ℕ → LocalView → Bool
is_national number local = are_digits number && length number == local.national

-- a national number gets the country's digits before it; any other stays as it is
abbrev pub with_country : LocalView → List ℕ → List ℕ
with_country local number = if is_national number local then local.country ++ number else number

-- the number of a text that has no separators: after `+` it is international and stays as it is
abbrev pub number_of_kept : List ℕ → LocalView → Option (List ℕ)
number_of_kept [] local = None
number_of_kept (first ∷ rest) local =
    if first == plus then exact rest else option_map (with_country local) (exact (first ∷ rest))

-- the canonical number of a text, or none
unfoldable pub Canon : List ℕ → LocalView → Option (List ℕ)
Canon text local = number_of_kept (without_separators text) local

-- the three ways in which a text stands for a number: after a `+`; as it is, unless it is as many digits as a national
-- number has; and those digits with the country's before them
pub data StandsFor (text : List ℕ) (local : LocalView) (number : List ℕ) : Type 0 where
  international : is_number number ≡ true → without_separators text ≡ plus ∷ number → StandsFor text local number
  plain : is_number number ≡ true → without_separators text ≡ number
      → (are_digits number ≡ true → length number ≡ local.national → ⊥) → StandsFor text local number
  national : (digits : List ℕ) → is_number digits ≡ true → without_separators text ≡ digits → are_digits digits ≡ true
      → length digits ≡ local.national → number ≡ local.country ++ digits → StandsFor text local number
