-- Facts on codes.
use Rattle.std.proofs.Common.{◌≡◌, ℕ, ◌<◌, true, List, arith}
use Rattle.std.proofs.lemmas.Bool.Decides.{nat_tests}
use Rattle.std.specs.Str.{IsUtf8}
use Rattle.lists.proofs.Bytes.{IsBounded, all_utf8, bounded_parts}
use Rattle.tn_auth_list.specs.Code.{is_code_byte, is_code}

-- what a code is: its length, and its bytes
pub code_parts : (text : List ℕ) → is_code text ≡ true → IsBounded 32 is_code_byte text
unfolding is_code
code_parts text h = bounded_parts 32 is_code_byte text h

below_128 : (byte : ℕ) → is_code_byte byte ≡ true → byte < 128
below_128 byte h = grind (arith, nat_tests)

-- a code is text
pub code_utf8 : (text : List ℕ) → is_code text ≡ true → IsUtf8 text
code_utf8 text h = all_utf8 is_code_byte below_128 text (code_parts text h).bytes
