-- A number that is read digit by digit: what a further digit makes of it, and with which bytes no number goes on.
use Rattle.std.proofs.Common.{◌≡◌, ◌≢◌, ℕ, suc, zero, ◌+◌, ◌-◌, ◌*◌, ◌/◌, ◌%◌, ◌^◌, ◌<◌, ◌≤◌, true, false, ◌&&◌, ◌==◌, List, [], ◌∷◌, ◌++◌, length, get_or, take, refl, sym, ◌∙◌, ap, subst, arith, inl, inr, append_assoc, length-append}
use Rattle.std.specs.Char.{is_ascii_digit}
use Rattle.std.specs.Int.{IsInRange}
use Rattle.std.specs.List.{list_all}
use Rattle.std.specs.Fmt.{decimal}
use Rattle.std.specs.Str.Parse.{digits_value}
use Rattle.std.proofs.lemmas.Bool.Decides.{nat_tests}
use Rattle.std.proofs.lemmas.Fmt.{decimal_digit, decimal_is_IsNumeral, decimal_nonempty, decimal_step, digits_decimal, first_decimal}
use Rattle.std.proofs.lemmas.Str.Parse.{digits_value-take-le}
use Rattle.std.proofs.lemmas.Bool.{and_parts}
use lib.Seq.{take-append_seam}
use Rattle.call_log.specs.Number.{AreDigits, NoNumber}
use Rattle.call_log.specs.declared.digits.Digits.{Digits}
use Rattle.text_grammar.proofs.DecimalLaws.{IsDigits, digit_numerals}

-- ---- digits and what comes after them

pub decimal_digits : (n : ℕ) → n < 2 ^ 64 → IsDigits (decimal n)
decimal_digits n h = digits_decimal digit_numerals n h

differ : (b c : ℕ) → is_ascii_digit b ≡ true → is_ascii_digit c ≡ false → b ≡ c → ⊥
differ b c d n e = let same : is_ascii_digit b ≡ is_ascii_digit c = ap is_ascii_digit e in cc

-- digits and the first byte that is none are found again
pub seam : (p q x y : List ℕ) (b c : ℕ) → IsDigits p → IsDigits q → is_ascii_digit b ≡ false → is_ascii_digit c ≡ false → p ++ b ∷ x ≡ q ++ c ∷ y → (p ≡ q) × (b ≡ c) × (x ≡ y)
seam [] [] x y b c dp dq nb nc e = (refl, cc, cc)
seam [] (d ∷ q) x y b c dp dq nb nc e = absurd (differ d b (and_parts (is_ascii_digit d) (list_all is_ascii_digit q) dq).0 nb (cc))
seam (d ∷ p) [] x y b c dp dq nb nc e = absurd (differ d c (and_parts (is_ascii_digit d) (list_all is_ascii_digit p) dp).0 nc (cc))
seam (d ∷ p) (f ∷ q) x y b c dp dq nb nc e =
    let rest : p ++ b ∷ x ≡ q ++ c ∷ y = cc in
    let first : d ≡ f = cc in
    let k = seam p q x y b c (and_parts (is_ascii_digit d) (list_all is_ascii_digit p) dp).1 (and_parts (is_ascii_digit f) (list_all is_ascii_digit q) dq).1 nb nc rest in
    let same : p ≡ q = k.0 in
    (cc, k.1, k.2)

-- digits alone hold no other byte
pub no_other : (p q y : List ℕ) (c : ℕ) → IsDigits p → is_ascii_digit c ≡ false → p ≡ q ++ c ∷ y → ⊥
no_other [] [] y c d n e = cc
no_other [] (f ∷ q) y c d n e = cc
no_other (f ∷ p) [] y c d n e = differ f c (and_parts (is_ascii_digit f) (list_all is_ascii_digit p) d).0 n (cc)
no_other (f ∷ p) (g ∷ q) y c d n e = no_other p q y c (and_parts (is_ascii_digit f) (list_all is_ascii_digit p) d).1 n (cc)

-- digits before another byte begin the digits before it
front_of : (p q x y : List ℕ) (c : ℕ) → IsDigits p → is_ascii_digit c ≡ false → p ++ x ≡ q ++ c ∷ y → (mid : List ℕ) × (q ≡ p ++ mid)
front_of [] q x y c d n e = (q, refl)
front_of (f ∷ p) [] x y c d n e = absurd (differ f c (and_parts (is_ascii_digit f) (list_all is_ascii_digit p) d).0 n (cc))
front_of (f ∷ p) (g ∷ q) x y c d n e =
    let k = front_of p q x y c (and_parts (is_ascii_digit f) (list_all is_ascii_digit p) d).1 n (cc) in
    let first : f ≡ g = cc in
    let rest : q ≡ p ++ k.0 = k.1 in
    (k.0, cc)

-- a number is at least any with which its text begins
at_least : (m n : ℕ) (mid : List ℕ) → m < 2 ^ 64 → n < 2 ^ 64 → decimal n ≡ decimal m ++ mid → m ≤ n
at_least m n mid hm hn e =
    let front : take (length (decimal m)) (decimal n) ≡ decimal m = ap (take (length (decimal m))) e ∙ take-append_seam (decimal m) mid in
    let less = digits_value-take-le 10 (decimal n) (length (decimal m)) (omega arith) in
    let one : digits_value 10 (decimal m) ≡ m = (decimal_is_IsNumeral m hm).1 in
    let two : digits_value 10 (decimal n) ≡ n = (decimal_is_IsNumeral n hn).1 in
    let cut : digits_value 10 (take (length (decimal m)) (decimal n)) ≡ m = ap (digits_value 10) front ∙ one in
    omega (arith, less, cut, two)

-- ---- a further digit

tenth : (v d : ℕ) → d < 10 → (v * 10 + d) / 10 ≡ v
tenth v d h = omega arith

unit : (v d : ℕ) → d < 10 → (v * 10 + d) % 10 ≡ d
unit v d h = omega arith

next_digit : (v b : ℕ) → 0 < v → v < 2 ^ 40 → is_ascii_digit b ≡ true → decimal v ++ b ∷ [] ≡ decimal (v * 10 + (b - 48))
next_digit v b some low d =
    let range : IsInRange 48 57 b = grind (arith, nat_tests) in
    let small : b - 48 < 10 = omega (arith, range) in
    let value : 48 + (v * 10 + (b - 48)) % 10 ≡ b = omega (arith, unit v (b - 48) small, range) in
    sym (decimal_step (v * 10 + (b - 48)) (omega arith) (omega arith) ∙ ap (λ x. decimal x ++ (48 + (v * 10 + (b - 48)) % 10) ∷ []) (tenth v (b - 48) small) ∙ ap (λ x. decimal v ++ x ∷ []) value)

first_digit : (b : ℕ) → is_ascii_digit b ≡ true → b ∷ [] ≡ decimal (0 * 10 + (b - 48))
first_digit b d =
    let range : IsInRange 48 57 b = grind (arith, nat_tests) in
    let value : 48 + (b - 48) ≡ b = omega (arith, range) in
    let same : 0 * 10 + (b - 48) ≡ b - 48 = omega arith in
    sym (ap decimal same ∙ decimal_digit (b - 48) (omega (arith, range)) ∙ ap (λ x. x ∷ []) value)

lone_zero : (digits : Digits) → (digits.count == 1 && digits.value == 0) ≡ false → digits.count ≡ 1 → 0 < digits.value
lone_zero digits free e = grind (arith, nat_tests)

above_by : (v : ℕ) (digits : Digits) → digits.value ≡ v → digits.count ≡ length (decimal digits.value) → (digits.count == 1 && digits.value == 0) ≡ false → 0 < digits.value
above_by zero digits e size free = lone_zero digits free (size ∙ ap (λ x. length (decimal x)) e ∙ ap length (decimal_digit 0 (omega arith)))
above_by (suc v) digits e size free = omega (arith, e)

written_on : (most byte : ℕ) (digits : Digits) (bytes : List ℕ) → most < 2 ^ 40 → is_ascii_digit byte ≡ true → (digits.count == 1 && digits.value == 0) ≡ false → AreDigits most digits bytes
    → bytes ++ byte ∷ [] ≡ decimal (digits.value * 10 + (byte - 48))
written_on most byte digits bytes low d free are =
    elim are.written [
      | inl none ↦ ap (λ x. x ++ byte ∷ []) none.0 ∙ first_digit byte d ∙ ap (λ x. decimal (x * 10 + (byte - 48))) (sym none.1)
      | inr some ↦ ap (λ x. x ++ byte ∷ []) some ∙ next_digit digits.value byte (above_by digits.value digits refl (are.size ∙ ap length some) free) (omega (arith, are.within)) d
    ]

pub goes_on : (most byte : ℕ) (digits : Digits) (bytes : List ℕ) → most < 2 ^ 40 → is_ascii_digit byte ≡ true → (digits.count == 1 && digits.value == 0) ≡ false → digits.value * 10 + (byte - 48) ≤ most
    → AreDigits most digits bytes → AreDigits most (record { value = digits.value * 10 + (byte - 48); count = digits.count + 1 }) (bytes ++ byte ∷ [])
goes_on most byte digits bytes low d free within are = record {
  within = within;
  size = omega (arith, are.size, length-append bytes (byte ∷ []));
  written = inr (written_on most byte digits bytes low d free are);
}

-- ---- with which bytes no number goes on

are_digits : (most : ℕ) (digits : Digits) (bytes : List ℕ) → most < 2 ^ 40 → AreDigits most digits bytes → IsDigits bytes
are_digits most digits bytes low are =
    elim are.written [
      | inl none ↦ subst IsDigits (sym none.0) refl
      | inr some ↦ subst IsDigits (sym some) (decimal_digits digits.value (omega (arith, are.within)))
    ]

pub foreign : (most byte last : ℕ) (digits : Digits) (bytes more : List ℕ) → most < 2 ^ 40 → is_ascii_digit byte ≡ false → AreDigits most digits bytes → is_ascii_digit last ≡ false → byte ≢ last
    → NoNumber most last (bytes ++ byte ∷ more)
foreign most byte last digits bytes more low n are m other = λ number behind within e.
    other (seam bytes (decimal number) more behind byte last (are_digits most digits bytes low are) (decimal_digits number (omega arith)) n m e).1

zero_by : (n byte last : ℕ) (text more behind : List ℕ) → n < 2 ^ 64 → text ≡ decimal n → is_ascii_digit byte ≡ true → is_ascii_digit last ≡ false → 48 ∷ byte ∷ more ≡ text ++ last ∷ behind → ⊥
zero_by n byte last [] more behind low t d m e = let some = decimal_nonempty n low in omega (arith, some, ap length t)
zero_by zero byte last (f ∷ text) more behind low t d m e =
    let one : f ∷ text ≡ 48 ∷ [] = t ∙ decimal_digit 0 (omega arith) in
    let rest : text ≡ [] = cc in
    let tail : byte ∷ more ≡ text ++ last ∷ behind = cc in
    let here : byte ∷ more ≡ last ∷ behind = tail ∙ ap (λ x. x ++ last ∷ behind) rest in
    differ byte last d m (cc)
zero_by (suc n) byte last (f ∷ text) more behind low t d m e =
    let high : 48 < get_or (decimal (suc n)) 0 0 = first_decimal (suc n) (omega arith) low in
    let first : get_or (decimal (suc n)) 0 0 ≡ f = ap (λ x. get_or x 0 0) (sym t) in
    let same : 48 ≡ f = cc in
    omega (arith, high, first, same)

pub leading_zero : (most byte last : ℕ) (digits : Digits) (bytes more : List ℕ) → most < 2 ^ 40 → is_ascii_digit byte ≡ true → (digits.count == 1 && digits.value == 0) ≡ true → AreDigits most digits bytes
    → is_ascii_digit last ≡ false → NoNumber most last (bytes ++ byte ∷ more)
leading_zero most byte last digits bytes more low d is are m = λ number behind within e.
    let one : digits.count ≡ 1 = grind (arith, nat_tests) in
    let none : digits.value ≡ 0 = grind (arith, nat_tests) in
    let text : bytes ≡ 48 ∷ [] = elim are.written [
      | inl empty ↦ absurd (omega (arith, one, are.size, ap length empty.0))
      | inr some ↦ some ∙ ap decimal none ∙ decimal_digit 0 (omega arith)
    ] in
    zero_by number byte last (decimal number) more behind (omega arith) refl d m (ap (λ x. x ++ byte ∷ more) (sym text) ∙ e)

pub too_large : (most byte last : ℕ) (digits : Digits) (bytes more : List ℕ) → most < 2 ^ 40 → is_ascii_digit byte ≡ true → (digits.count == 1 && digits.value == 0) ≡ false
    → most < digits.value * 10 + (byte - 48) → AreDigits most digits bytes → is_ascii_digit last ≡ false → NoNumber most last (bytes ++ byte ∷ more)
too_large most byte last digits bytes more low d free above are m = λ number behind within e.
    let range : IsInRange 48 57 byte = grind (arith, nat_tests) in
    let value = digits.value * 10 + (byte - 48) in
    let small : value < 2 ^ 64 = omega (arith, are.within, range) in
    let here : decimal value ++ more ≡ decimal number ++ last ∷ behind = ap (λ x. x ++ more) (sym (written_on most byte digits bytes low d free are)) ∙ append_assoc bytes (byte ∷ []) more ∙ e in
    let front = front_of (decimal value) (decimal number) more behind last (decimal_digits value small) m here in
    omega (arith, at_least value number front.0 small (omega arith) front.1, above, within)
