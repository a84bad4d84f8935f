-- Laws of the decimal value of digits: it is below the power of ten, it tells the digits, and each value below the power has its digits.
use Rattle.std.proofs.Common.{◌≡◌, ℕ, zero, suc, ◌+◌, ◌-◌, ◌*◌, ◌/◌, ◌%◌, ◌^◌, ◌<◌, ◌≤◌, true, List, [], ◌∷◌, ◌++◌, length, take, get_or, arith, refl, length-append}
use Rattle.std.proofs.lemmas.Bool.{and_parts}
use Rattle.std.proofs.Math.Nat.{pow-le-pow_right, pow-suc}
use Rattle.std.proofs.lemmas.Bool.Decides.{nat_tests}
use Rattle.std.proofs.lemmas.Grind.{common_steps}
use Rattle.std.proofs.lemmas.Int.Digits.{digits_value-lt, digits_value_push, digits_value_more}
use Rattle.std.specs.Char.{digit_value}
use Rattle.std.specs.Cmp.Derive.{both_true}
use Rattle.std.specs.Str.Parse.{digits_value_after, AllDigits}
use Rattle.tn_values.specs.Digit.{is_digit, are_digits}
use Rattle.tn_values.specs.Span.{value_of}

pub digit_value_is : (byte : ℕ) → is_digit byte ≡ true → digit_value byte + 48 ≡ byte
digit_value_is byte h = grind (arith, nat_tests)

digit_small : (byte : ℕ) → is_digit byte ≡ true → digit_value byte < 10
digit_small byte h = grind (arith, nat_tests)

all_digits : (text : List ℕ) → are_digits text ≡ true → AllDigits 10 text
all_digits [] h = tt
all_digits (byte ∷ rest) h =
    let each = and_parts (is_digit byte) (are_digits rest) h in
    (digit_small byte each.0, all_digits rest each.1)

pub value_below : (text : List ℕ) → are_digits text ≡ true → value_of text < 10 ^ length text
value_below text h = digits_value-lt 10 text (all_digits text h)

-- ---- a prefix of digits

pub digit_at : (text : List ℕ) (i : ℕ) → are_digits text ≡ true → i < length text → is_digit (get_or text i 0) ≡ true
digit_at [] i h inside = absurd (omega arith)
digit_at (byte ∷ rest) zero h inside = (and_parts (is_digit byte) (are_digits rest) h).0
digit_at (byte ∷ rest) (suc i) h inside = digit_at rest i (and_parts (is_digit byte) (are_digits rest) h).1 (omega arith)

pub front_digits : (text : List ℕ) (i : ℕ) → are_digits text ≡ true → are_digits (take i text) ≡ true
front_digits [] zero h = refl
front_digits (byte ∷ rest) zero h = refl
front_digits [] (suc i) h = refl
front_digits (byte ∷ rest) (suc i) h =
    let each = and_parts (is_digit byte) (are_digits rest) h in
    both_true each.0 (front_digits rest i each.1)

length_front : (text : List ℕ) (i : ℕ) → i ≤ length text → length (take i text) ≡ i
length_front text i inside = grind (arith, common_steps)

-- the value of fewer than 15 digits
pub front_below : (text : List ℕ) (i : ℕ) → are_digits text ≡ true → length text ≤ 15 → i < length text → value_of (take i text) < 10 ^ 14
front_below text i h short inside =
    let below = value_below (take i text) (front_digits text i h) in
    let as_long : length (take i text) ≡ i = length_front text i (omega arith) in
    let fits : length (take i text) ≤ 14 = omega (arith, as_long) in
    let most : 10 ^ length (take i text) ≤ 10 ^ 14 = pow-le-pow_right (omega arith) fits in
    omega (arith, below, most)

-- one digit more
pub value_more : (text : List ℕ) (i : ℕ) → are_digits text ≡ true → i < length text
    → value_of (take (i + 1) text) ≡ value_of (take i text) * 10 + (get_or text i 0 - 48)
value_more text i h inside =
    let more = digits_value_more 10 text i inside in
    let last = digit_value_is (get_or text i 0) (digit_at text i h inside) in
    omega (arith, more, last)

pub digit_from_48 : (text : List ℕ) (i : ℕ) → are_digits text ≡ true → i < length text → (48 ≤ get_or text i 0) × (get_or text i 0 ≤ 57)
digit_from_48 text i h inside =
    let last = digit_value_is (get_or text i 0) (digit_at text i h inside) in
    let small = digit_small (get_or text i 0) (digit_at text i h inside) in
    (omega (arith, last, small), omega (arith, last, small))

-- ---- the value tells the digits

same_after : (n m : ℕ) (a b : List ℕ) → are_digits a ≡ true → are_digits b ≡ true → length a ≡ length b
    → digits_value_after 10 n a ≡ digits_value_after 10 m b → (n ≡ m) × (a ≡ b)
same_after n m [] [] da db l h = (h, refl)
same_after n m [] (d ∷ b) da db l h = absurd (omega arith)
same_after n m (c ∷ a) [] da db l h = absurd (omega arith)
same_after n m (c ∷ a) (d ∷ b) da db l h =
    let first = and_parts (is_digit c) (are_digits a) da in
    let second = and_parts (is_digit d) (are_digits b) db in
    let rest = same_after (n * 10 + digit_value c) (m * 10 + digit_value d) a b first.1 second.1 (omega arith) h in
    let heads : c ≡ d = omega (arith, rest.0, digit_value_is c first.0, digit_value_is d second.0, digit_small c first.0, digit_small d second.0) in
    let tails : a ≡ b = rest.1 in
    (omega (arith, rest.0, digit_value_is c first.0, digit_value_is d second.0, digit_small c first.0, digit_small d second.0), cc)

pub same_digits : (a b : List ℕ) → are_digits a ≡ true → are_digits b ≡ true → length a ≡ length b → value_of a ≡ value_of b → a ≡ b
same_digits a b da db l h = (same_after 0 0 a b da db l h).1

-- ---- the digits of a value

-- the last `count` decimal digits of the value
pub digits_of_value : ℕ → ℕ → List ℕ
digits_of_value zero value = []
digits_of_value (suc count) value = digits_of_value count (value / 10) ++ (48 + value % 10) ∷ []

pub record IsText (count value : ℕ) (text : List ℕ) : Type 0 where
  pub digits : are_digits text ≡ true
  pub as_long : length text ≡ count
  pub of_value : value_of text ≡ value

are_digits_push : (text : List ℕ) (byte : ℕ) → are_digits text ≡ true → is_digit byte ≡ true → are_digits (text ++ byte ∷ []) ≡ true
are_digits_push [] byte h b = both_true b refl
are_digits_push (first ∷ rest) byte h b =
    let each = and_parts (is_digit first) (are_digits rest) h in
    both_true each.0 (are_digits_push rest byte each.1 b)

last_digit : (value : ℕ) → is_digit (48 + value % 10) ≡ true
last_digit value =
    let small : value % 10 < 10 = omega arith in
    grind (arith, nat_tests)

pub text_of : (count value : ℕ) → value < 10 ^ count → IsText count value (digits_of_value count value)
unfolding digits_of_value
text_of zero value h = record { digits = refl; as_long = refl; of_value = omega (arith, h) }
text_of (suc count) value h =
    let fewer : value / 10 < 10 ^ count = omega (arith, h, pow-suc 10 count) in
    let before = text_of count (value / 10) fewer in
    let last : is_digit (48 + value % 10) ≡ true = last_digit value in
    let value_is = digits_value_push 10 (digits_of_value count (value / 10)) (48 + value % 10) in
    record {
      digits = are_digits_push (digits_of_value count (value / 10)) (48 + value % 10) before.digits last;
      as_long = omega (arith, before.as_long, length-append (digits_of_value count (value / 10)) ((48 + value % 10) ∷ []));
      of_value = omega (arith, value_is, before.of_value, digit_value_is (48 + value % 10) last);
    }
