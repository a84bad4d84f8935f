-- A text of decimal digits without a leading zero is what `decimal` writes of the number it says, and no other text is.
use Rattle.std.proofs.Common.{not, ◌==◌, ◌≡◌, ◌≢◌, ℕ, suc, zero, ◌^◌, ◌<◌, ◌≤◌, Bool, true, false, ◌&&◌, cond, List, [], ◌∷◌, length, get_or, Some, None, Result, Err, refl, sym, arith, ap, ◌∙◌, subst, ◌⊎◌, inl, inr, nat_le, nat_lt}
use Rattle.std.specs.Char.{is_ascii_digit}
use Rattle.std.specs.Int.{IsInRange}
use Rattle.std.specs.List.{list_all}
use Rattle.std.specs.Result.{OkIff}
use Rattle.std.specs.Fmt.{decimal}
use Rattle.std.specs.Str.{IsUtf8}
use Rattle.std.specs.Str.Parse.{ParsesUnsigned, digits_value}
use Rattle.std.proofs.lemmas.Bool.Decides.{nat_tests}
use Rattle.std.proofs.lemmas.Fmt.{IsAscii-from_digits, decimal-digits_value, digits_value-decimal, digits_decimal, decimal_nonempty, first_decimal, decimal_digit}
use Rattle.std.proofs.lemmas.Str.{IsUtf8-from_ascii}
use Rattle.std.proofs.lemmas.Str.Parse.{IsNumeralModel, numerals_by_value, parse_digits}
use Rattle.text_grammar.specs.Cut.{lacks}
use Rattle.lists.proofs.Bytes.{each}
use Rattle.text_grammar.specs.Decimal.{is_decimal, number_up_to}

-- every byte is a digit
abbrev pub IsDigits : List ℕ → Type 0
IsDigits text = list_all is_ascii_digit text ≡ true

digit_parts : (c : ℕ) (cs : List ℕ) → IsDigits (c ∷ cs) → IsInRange 48 57 c × IsDigits cs
digit_parts c cs h = (grind (arith, nat_tests), grind (arith, nat_tests))

digit_more : (c : ℕ) (cs : List ℕ) → IsInRange 48 57 c → IsDigits cs → IsDigits (c ∷ cs)
digit_more c cs low h = grind (arith, nat_tests)

-- texts of digits are numerals for the laws of numbers as text
pub digit_numerals : IsNumeralModel IsDigits (digits_value 10)
digit_numerals = numerals_by_value IsDigits (record { empty = refl; parts = digit_parts; more = digit_more })

-- what the test says of a text that passes
record Passes (text : List ℕ) : Type 0 where
  digits : IsDigits text
  some : 0 < length text
  no_zero : get_or text 0 0 ≡ 48 → length text ≡ 1
  no_plus : get_or text 0 0 ≢ 43

passes : (text : List ℕ) → is_decimal text ≡ true → Passes text
passes [] h = absurd (cc)
passes (a ∷ []) h = record { digits = grind (arith, nat_tests); some = omega arith; no_zero = λ _. omega arith; no_plus = grind (arith, nat_tests) }
passes (a ∷ b ∷ more) h = record { digits = grind (arith, nat_tests); some = omega arith; no_zero = grind (arith, nat_tests); no_plus = grind (arith, nat_tests) }

passed : (text : List ℕ) → IsDigits text → 0 < length text → (get_or text 0 0 ≡ 48 → length text ≡ 1) → is_decimal text ≡ true
passed [] d some z = absurd (omega arith)
passed (a ∷ []) d some z = grind (arith, nat_tests)
passed (a ∷ b ∷ more) d some z = grind (arith, nat_tests)

pub is_text : (text : List ℕ) → is_decimal text ≡ true → IsUtf8 text
is_text text h = IsUtf8-from_ascii text (IsAscii-from_digits text (digit_numerals.to text (passes text h).digits))

parsed_number : {E : Type 0} (text : List ℕ) (r : Result ℕ E) → is_decimal text ≡ true → ParsesUnsigned 64 10 text r → OkIff r ((0 < length text) × (digits_value 10 text < 2 ^ 64)) (digits_value 10 text)
parsed_number text r h p = parse_digits digit_numerals 64 text r p (passes text h).digits

above : (v most : ℕ) → most < v → nat_le v most ≡ false
above v most h = grind (arith, nat_tests)

below_or_not : (a b : ℕ) (t : Bool) → nat_lt a b ≡ t → (a < b) ⊎ (b ≤ a)
below_or_not a b true e = inl (grind (arith, nat_tests))
below_or_not a b false e = inr (grind (arith, nat_tests))

-- digits that `parse` refuses write a number that is too large
pub number_unparsed : (E : Type 0) (most : ℕ) (text digits : List ℕ) (e : E) → digits ≡ text → most < 2 ^ 64 → is_decimal text ≡ true
    → ParsesUnsigned {E = E} 64 10 digits (Err e) → None ≡ number_up_to most text
number_unparsed E most text digits e same low h p =
    let P : List ℕ → Type 0 = λ x. ParsesUnsigned {E = E} 64 10 x (Err e) in
    let q : ¬ ((0 < length text) × (digits_value 10 text < 2 ^ 64)) = parsed_number {E = E} text (Err e) h (subst P same p) in
    let some : 0 < length text = (passes text h).some in
    let large : most < digits_value 10 text = elim (below_or_not (digits_value 10 text) (2 ^ 64) (nat_lt (digits_value 10 text) (2 ^ 64)) refl) [ inl small ↦ absurd (q (some, small)) | inr big ↦ omega (arith, big) ] in
    rw (h, above _ _ large) refl

no_digit : (b byte : ℕ) → is_ascii_digit b ≡ true → is_ascii_digit byte ≡ false → not (b == byte) ≡ true
no_digit b byte d other = grind (arith, nat_tests)

-- what a number found says of the text
found : (most : ℕ) (text : List ℕ) (n : ℕ) (t : Bool) → is_decimal text ≡ t → (u : Bool) → nat_le (digits_value 10 text) most ≡ u
    → cond (t && u) (Some (digits_value 10 text)) None ≡ Some n → (is_decimal text ≡ true) × (digits_value 10 text ≤ most) × (digits_value 10 text ≡ n)
found most text n true d true u h = (d, grind (arith, nat_tests), cc)
found most text n true d false u h = absurd (cc)
found most text n false d u e h = absurd (cc)

pub number_written : (most : ℕ) (text : List ℕ) (n : ℕ) → most < 2 ^ 64 → number_up_to most text ≡ Some n → text ≡ decimal n
number_written most text n low h =
    let f = found most text n (is_decimal text) refl (nat_le (digits_value 10 text) most) refl h in
    let p = passes text f.0 in
    let small : digits_value 10 text < 2 ^ 64 = omega (arith, f.1) in
    sym (ap decimal (sym f.2) ∙ decimal-digits_value digit_numerals text p.digits p.some p.no_zero small)

-- the number found is within the limit
pub number_within : (most : ℕ) (text : List ℕ) (n : ℕ) → number_up_to most text ≡ Some n → n ≤ most
number_within most text n h =
    let f = found most text n (is_decimal text) refl (nat_le (digits_value 10 text) most) refl h in
    omega (arith, f.1, f.2)

-- a byte that is no digit is in no number
pub decimal_lacks : (n byte : ℕ) → n < 2 ^ 64 → is_ascii_digit byte ≡ false → lacks byte (decimal n) ≡ true
decimal_lacks n byte h other = each is_ascii_digit (λ b. not (b == byte)) (λ b d. no_digit b byte d other) (decimal n) (digits_decimal digit_numerals n h)

no_zero_first : (n : ℕ) → n < 2 ^ 64 → get_or (decimal n) 0 0 ≡ 48 → length (decimal n) ≡ 1
no_zero_first zero h e = ap length (decimal_digit 0 (omega arith))
no_zero_first (suc n) h e = absurd (omega (arith, first_decimal (suc n) (omega arith) h))

pub number_only : (most : ℕ) (text : List ℕ) (n : ℕ) → most < 2 ^ 64 → n ≤ most → text ≡ decimal n → number_up_to most text ≡ Some n
number_only most text n low small h =
    let limit : n < 2 ^ 64 = omega arith in
    let value : digits_value 10 text ≡ n = ap (digits_value 10) h ∙ digits_value-decimal digit_numerals n limit in
    let digits : IsDigits text = subst IsDigits (sym h) (digits_decimal digit_numerals n limit) in
    let some : 0 < length text = subst (λ (x : List ℕ). 0 < length x) (sym h) (decimal_nonempty n limit) in
    let zero : get_or text 0 0 ≡ 48 → length text ≡ 1 = subst (λ (x : List ℕ). get_or x 0 0 ≡ 48 → length x ≡ 1) (sym h) (no_zero_first n limit) in
    let within : nat_le n most ≡ true = grind (arith, nat_tests) in
    rw (passed text digits some zero, value, within) refl
