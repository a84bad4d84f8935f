-- Byte texts: when two are one, what holds of all bytes of one, and texts of a bounded length.
use Rattle.std.proofs.Common.{◌≡◌, ℕ, ◌<◌, ◌≤◌, Bool, true, ◌&&◌, nat_le, ◌==◌, List, [], ◌∷◌, ◌++◌, length, reverse, refl, ap, ◌∙◌, arith}
use Rattle.std.specs.List.{list_all}
use Rattle.std.specs.Str.{IsAscii, IsUtf8, bytes_eq}
use Rattle.std.proofs.lemmas.Bool.{and_parts}
use Rattle.std.proofs.lemmas.Bool.Decides.{nat_tests}
use Rattle.std.proofs.lemmas.List.{reverse-append}
use Rattle.std.proofs.lemmas.List.Folds.{list_all-append}
use Rattle.std.proofs.lemmas.Slice.Eq.{bytes_eq-Decides}
use Rattle.std.proofs.lemmas.Str.{IsUtf8-from_ascii}
use Rattle.std.proofs.lemmas.Str.Ascii.{IsAscii-nil, IsAscii-cons}

-- ---- the same text

pub same_byte : (b : ℕ) → (b == b) ≡ true
same_byte b = grind (arith, nat_tests)

-- texts that the test finds equal are one
pub bytes_same : (a b : List ℕ) → bytes_eq a b ≡ true → a ≡ b
bytes_same a b e = (bytes_eq-Decides a b).0 e

-- a text is equal to itself
pub same_bytes : (a : List ℕ) → bytes_eq a a ≡ true
same_bytes a = (bytes_eq-Decides a a).1 refl

-- a text that the test finds empty has no bytes
pub no_byte : (text : List ℕ) → length text == 0 ≡ true → text ≡ []
no_byte [] e = refl
no_byte (b ∷ bs) e = absurd (grind (arith, nat_tests))

-- ---- all bytes of a text

-- what holds of each byte that passes one test holds of all of a text that pass it
pub each : (p q : ℕ → Bool) → ((b : ℕ) → p b ≡ true → q b ≡ true) → (text : List ℕ) → list_all p text ≡ true → list_all q text ≡ true
each p q implies [] h = refl
each p q implies (b ∷ bs) h = let t = and_parts (p b) (list_all p bs) h in rw (implies b t.0, each p q implies bs t.1) refl

pub all_append : (p : ℕ → Bool) (xs ys : List ℕ) → list_all p xs ≡ true → list_all p ys ≡ true → list_all p (xs ++ ys) ≡ true
all_append p xs ys h k = list_all-append p xs ys ∙ rw (h, k) refl

pub all_reverse : (p : ℕ → Bool) (xs : List ℕ) → list_all p xs ≡ true → list_all p (reverse xs) ≡ true
all_reverse p [] h = refl
all_reverse p (x ∷ xs) h =
    let t = and_parts (p x) (list_all p xs) h in
    let one : list_all p (x ∷ []) ≡ true = rw t.0 refl in
    ap (list_all p) (reverse-append (x ∷ []) xs) ∙ all_append p (reverse xs) (x ∷ []) (all_reverse p xs t.1) one

-- bytes of a class below 128 are ASCII
pub all_ascii : (p : ℕ → Bool) → ((b : ℕ) → p b ≡ true → b < 128) → (text : List ℕ) → list_all p text ≡ true → IsAscii text
all_ascii p below [] h = IsAscii-nil
all_ascii p below (b ∷ bs) h =
    let t = and_parts (p b) (list_all p bs) h in
    IsAscii-cons b bs (below b t.0) (all_ascii p below bs t.1)

-- and so are text
pub all_utf8 : (p : ℕ → Bool) → ((b : ℕ) → p b ≡ true → b < 128) → (text : List ℕ) → list_all p text ≡ true → IsUtf8 text
all_utf8 p below text h = IsUtf8-from_ascii text (all_ascii p below text h)

-- ---- texts of a bounded length

-- a text of 1 to so many bytes, each of this class
pub record IsBounded (most : ℕ) (p : ℕ → Bool) (text : List ℕ) : Type 0 where
  pub some : 1 ≤ length text
  pub short : length text ≤ most
  pub bytes : list_all p text ≡ true

pub bounded_parts : (most : ℕ) (p : ℕ → Bool) (text : List ℕ) → (nat_le 1 (length text) && nat_le (length text) most && list_all p text) ≡ true → IsBounded most p text
bounded_parts most p text h =
    let lengths = and_parts (nat_le 1 (length text) && nat_le (length text) most) (list_all p text) h in
    let ends = and_parts (nat_le 1 (length text)) (nat_le (length text) most) lengths.0 in
    record { some = grind (arith, nat_tests, ends.0); short = grind (arith, nat_tests, ends.1); bytes = lengths.1 }
