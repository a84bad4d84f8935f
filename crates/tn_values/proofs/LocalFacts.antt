-- Facts on the local numbering.
use Rattle.std.proofs.Common.{◌≡◌, ℕ, ◌+◌, ◌≤◌, true, List, [], ◌∷◌, length, arith, refl}
use Rattle.std.proofs.lemmas.Bool.{and_parts}
use Rattle.std.proofs.lemmas.Bool.Decides.{nat_tests}
use Rattle.std.specs.Cmp.Derive.{both_true}
use Rattle.std.specs.List.{list_all}
use Rattle.tn_values.specs.Digit.{is_digit, are_digits}
use Rattle.tn_values.specs.Number.{is_number_byte, is_number}
use Rattle.tn_values.specs.Local.{is_local}

digit_stands : (byte : ℕ) → is_digit byte ≡ true → is_number_byte byte ≡ true
digit_stands byte h = grind (arith, nat_tests)

-- digits are bytes of numbers
pub digits_stand : (text : List ℕ) → are_digits text ≡ true → list_all is_number_byte text ≡ true
digits_stand [] h = refl
digits_stand (byte ∷ rest) h =
    let each = and_parts (is_digit byte) (are_digits rest) h in
    let first : is_number_byte byte ≡ true = digit_stands byte each.0 in
    let others : list_all is_number_byte rest ≡ true = digits_stand rest each.1 in
    both_true first others

-- 1 to 15 digits are a number
pub number_of_digits : (text : List ℕ) → 1 ≤ length text → length text ≤ 15 → are_digits text ≡ true → is_number text ≡ true
unfolding is_number
number_of_digits text some short h =
    let bytes : list_all is_number_byte text ≡ true = digits_stand text h in
    grind (arith, nat_tests)

-- what a local numbering is
pub record IsLocal (country : List ℕ) (national : ℕ) : Type 0 where
  pub some : 1 ≤ length country
  pub digits : are_digits country ≡ true
  pub short : length country + national ≤ 15

pub local_parts : (country : List ℕ) (national : ℕ) → is_local country national ≡ true → IsLocal country national
unfolding is_local
local_parts country national h = record { some = grind (arith, nat_tests); digits = grind (arith, nat_tests); short = grind (arith, nat_tests) }

pub country_is_number : (country : List ℕ) (national : ℕ) → is_local country national ≡ true → is_number country ≡ true
country_is_number country national h =
    let parts = local_parts country national h in
    number_of_digits country parts.some (omega (arith, parts.short)) parts.digits
