-- Facts on numbers.
use Rattle.std.proofs.Common.{◌≡◌, ℕ, ◌<◌, true, List, arith}
use Rattle.std.proofs.lemmas.Bool.Decides.{nat_tests}
use Rattle.std.specs.Str.{IsUtf8}
use Rattle.lists.proofs.Bytes.{IsBounded, all_utf8, bounded_parts}
use Rattle.tn_values.specs.Number.{is_number_byte, is_number}

-- what a number is: its length, and its bytes
pub number_parts : (text : List ℕ) → is_number text ≡ true → IsBounded 15 is_number_byte text
unfolding is_number
number_parts text h = bounded_parts 15 is_number_byte text h

below_128 : (byte : ℕ) → is_number_byte byte ≡ true → byte < 128
below_128 byte h = grind (arith, nat_tests)

pub number_utf8 : (text : List ℕ) → is_number text ≡ true → IsUtf8 text
number_utf8 text h = all_utf8 is_number_byte below_128 text (number_parts text h).bytes
