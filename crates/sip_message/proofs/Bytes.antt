-- Which bytes a byte of a class is not.
use Rattle.std.proofs.Common.{◌≡◌, ℕ, true, false, not, ◌==◌, arith}
use Rattle.std.proofs.lemmas.Bool.Decides.{nat_tests}
use Rattle.sip_message.specs.HeadAlphabet.{is_target_byte}
use Rattle.text_grammar.specs.Bytes.{is_blank, is_name_byte}

pub name_no_space : (b : ℕ) → is_name_byte b ≡ true → not (b == 32) ≡ true
name_no_space b h = grind (arith, nat_tests)

pub name_no_colon : (b : ℕ) → is_name_byte b ≡ true → not (b == 58) ≡ true
name_no_colon b h = grind (arith, nat_tests)

pub name_no_blank : (b : ℕ) → is_name_byte b ≡ true → is_blank b ≡ false
name_no_blank b h = grind (arith, nat_tests)

pub blank_no_colon : (b : ℕ) → is_blank b ≡ true → not (b == 58) ≡ true
blank_no_colon b h = grind (arith, nat_tests)

pub target_no_space : (b : ℕ) → is_target_byte b ≡ true → not (b == 32) ≡ true
target_no_space b h = grind (arith, nat_tests)
