-- A URI is ASCII text.
use Rattle.std.proofs.Common.{◌≡◌, ◌↔◌, ℕ, ◌<◌, Bool, true, List, IsTrue, length, nat_le, refl, sym, ◌∙◌, arith}
use Rattle.std.proofs.lemmas.Bool.Decides.{nat_tests}
use Rattle.std.specs.Str.{IsUtf8}
use Rattle.lists.proofs.Bytes.{IsBounded, all_utf8, bounded_parts}
use Rattle.text_grammar.specs.Bytes.{is_uri_byte}
use Rattle.text_grammar.specs.Grammar.{Run}
use Rattle.text_grammar.specs.Uri.{is_uri}

below_128 : (byte : ℕ) → is_uri_byte byte ≡ true → byte < 128
below_128 byte h = grind (arith, nat_tests)

-- its length, and its bytes
pub uri_parts : (text : List ℕ) → is_uri text ≡ true → IsBounded 2048 is_uri_byte text
unfolding is_uri
uri_parts text h = bounded_parts 2048 is_uri_byte text h

pub uri_utf8 : (text : List ℕ) → is_uri text ≡ true → IsUtf8 text
uri_utf8 text h = all_utf8 is_uri_byte below_128 text (uri_parts text h).bytes

-- ---- the same in the words of the grammar

pub uri_of_run : (text : List ℕ) → Run is_uri_byte 2048 text → is_uri text ≡ true
unfolding is_uri
uri_of_run text run =
    let some : nat_le 1 (length text) ≡ true = let k = run.some in grind (arith, nat_tests) in
    let few : nat_le (length text) 2048 ≡ true = let k = run.within in grind (arith, nat_tests) in
    rw (some, few, run.each) refl

pub run_of_uri : (text : List ℕ) → is_uri text ≡ true → Run is_uri_byte 2048 text
run_of_uri text h = let parts = uri_parts text h in record { some = parts.some; within = parts.short; each = parts.bytes }

-- what tests it tells whether it is one
pub test_is_run : (text : List ℕ) (t : Bool) → t ≡ is_uri text → IsTrue t ↔ Run is_uri_byte 2048 text
test_is_run text t e = (λ h. run_of_uri text (sym e ∙ h), λ run. e ∙ uri_of_run text run)
