-- Names are ASCII.
use Rattle.std.proofs.Common.{◌≡◌, ℕ, ◌<◌, ◌&&◌, nat_le, true, false, List, length, IsUtf8, arith}
use Rattle.std.specs.List.{list_all}
use Rattle.std.specs.Str.{is_utf8}
use Rattle.std.proofs.lemmas.Bool.{and_parts, false_from_ne_true}
use Rattle.std.proofs.lemmas.Bool.Decides.{nat_tests}
use Rattle.std.proofs.lemmas.Str.{IsUtf8-from_is_utf8, is_utf8-from_IsUtf8}
use Rattle.lists.proofs.Bytes.{all_utf8}
use Rattle.claim_constraints.specs.Constraints.{is_name, is_visible}

visible_below : (b : ℕ) → is_visible b ≡ true → b < 128
visible_below b h = let p = and_parts (nat_le 0x21 b) (nat_le b 0x7E) h in grind (arith, nat_tests, p.1)

pub name_utf8 : (text : List ℕ) → is_name text ≡ true → IsUtf8 text
unfolding is_name
name_utf8 text h =
    let p = and_parts (nat_le 1 (length text) && nat_le (length text) 64) (list_all is_visible text) h in
    all_utf8 is_visible visible_below text p.1

pub text_is : (text : List ℕ) → IsUtf8 text → is_utf8 text ≡ true
text_is = is_utf8-from_IsUtf8

pub text_not : (text : List ℕ) → (IsUtf8 text → ⊥) → is_utf8 text ≡ false
text_not text no_text = false_from_ne_true _ (λ is. no_text (IsUtf8-from_is_utf8 text is))
