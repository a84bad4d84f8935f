-- Numbers in text files and options: decimal digits without a sign and without a leading zero, except `0` itself
-- (this project's own rule).
use Rattle.std.specs.Prelude.{ℕ, Bool, true, false, not, ◌&&◌, ◌==◌, nat_le, List, [], ◌∷◌, Option, Some, None}
use Rattle.std.specs.Prelude.{if◌then◌else◌}
use Rattle.std.specs.Char.{is_ascii_digit}
use Rattle.std.specs.List.{list_all}
use Rattle.std.specs.Str.Parse.{digits_value}
use Rattle.text_grammar.specs.Bytes.{is_empty}

-- a zero comes before another byte
abbrev pub has_leading_zero : List ℕ → Bool
has_leading_zero [] = false
has_leading_zero (first ∷ []) = false
has_leading_zero (first ∷ second ∷ more) = first == 48

abbrev pub is_decimal : List ℕ → Bool
is_decimal text = list_all is_ascii_digit text && not (is_empty text) && not (has_leading_zero text)

-- the number that the text writes, if it is one of at most `most`
abbrev pub number_up_to : ℕ → List ℕ → Option ℕ
number_up_to most text =
    if is_decimal text && nat_le (digits_value 10 text) most then Some (digits_value 10 text) else None
