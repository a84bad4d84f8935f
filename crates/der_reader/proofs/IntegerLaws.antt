-- Laws of numbers read from bytes, and of the readers of an INTEGER.
use Rattle.std.proofs.Common.{◌≡◌, ℕ, zero, suc, ◌+◌, ◌-◌, ◌*◌, ◌^◌, ◌<◌, ◌≤◌, List, [], ◌∷◌, ◌++◌, length, take, drop, replicate, refl, sym, ap, subst, inl, inr, ◌⊎◌, ◌∙◌, arith, append-nil, lit≤, length-append, true, Ok}
use Rattle.std.specs.Prelude.{fold}
use borrow.Rule.Slice.PartMut.{put_mid}
use Rattle.std.proofs.lemmas.List.{length-replicate, take-replicate, drop-replicate, drop-drop}
use Rattle.std.proofs.Math.Nat.{pow-le-pow_right, pow-succ', mul-le-mul_right, le_trans}
use Rattle.std.proofs.lemmas.Bool.Decides.{nat_tests}
use Rattle.der_reader.specs.Integer.{big_endian, scalar_of, unsigned_of, IntegerText, is_integer_text, magnitude}
use Rattle.der_reader.specs.Tags.{integer_tag}

-- the number that the bytes continue
abbrev from : ℕ → List ℕ → ℕ
from a bytes = fold (λ number byte. number * 256 + byte) a bytes

from_grows : (a : ℕ) (bytes : List ℕ) → a ≤ from a bytes
from_grows a [] = omega arith
from_grows a (x ∷ xs) = omega (arith, from_grows (a * 256 + x) xs)

from_front : (a i : ℕ) (bytes : List ℕ) → i < length bytes → from a (take i bytes) * 256 ≤ from a bytes
from_front a i [] l = absurd (omega arith)
from_front a zero (x ∷ xs) l = omega (arith, from_grows (a * 256 + x) xs)
from_front a (suc i) (x ∷ xs) l = from_front (a * 256 + x) i xs (omega arith)

-- a prefix is 256 times smaller, at least
pub front_below : (i : ℕ) (bytes : List ℕ) → i < length bytes → big_endian (take i bytes) * 256 ≤ big_endian bytes
front_below i bytes l = from_front 0 i bytes l

-- nothing is left of 32 zeros after the last
no_zeros_left : (a : ℕ) → a ≤ 32 → drop {A = ℕ} (32 - a) (drop a (replicate 32 0)) ≡ []
no_zeros_left a l =
    let zeros : List ℕ = replicate 32 0 in
    let past : 32 - (a + (32 - a)) ≡ 0 = omega arith in
    let after : drop (32 - a) (drop a zeros) ≡ drop (a + (32 - a)) zeros = drop-drop (32 - a) a zeros in
    let left : drop {A = ℕ} (a + (32 - a)) zeros ≡ replicate (32 - (a + (32 - a))) 0 = drop-replicate (a + (32 - a)) 32 0 in
    let none : replicate {A = ℕ} (32 - (a + (32 - a))) 0 ≡ [] = ap (λ n. replicate n 0) past in
    after ∙ left ∙ none

-- what is written after a zeros, 32 bytes in all
behind : (a : ℕ) (digits written : List ℕ) → a ≤ 32 → written ≡ digits
    → put_mid a (32 - a) (replicate 32 0) written ≡ replicate a 0 ++ digits
behind a digits written l e =
    let front : take {A = ℕ} a (replicate 32 0) ≡ replicate a 0 = take-replicate a 32 0 l in
    let back : drop {A = ℕ} (32 - a) (drop a (replicate 32 0)) ≡ [] = no_zeros_left a l in
    let end : written ++ [] ≡ written = append-nil written in
    cc

pub behind_zeros : (digits written : List ℕ) → length digits ≤ 32 → written ≡ digits
    → put_mid (32 - length digits) (32 - (32 - length digits)) (replicate 32 0) written
    ≡ replicate (32 - length digits) 0 ++ digits
behind_zeros digits written l e = behind (32 - length digits) digits written (omega arith) e

-- bytes after a number are worth their powers
from_power : (a : ℕ) (bytes : List ℕ) → a * 256 ^ length bytes ≤ from a bytes
from_power a [] = omega arith
from_power a (x ∷ xs) =
    let next : (a * 256 + x) * 256 ^ length xs ≤ from (a * 256 + x) xs = from_power (a * 256 + x) xs in
    let power : 256 ^ suc (length xs) ≡ 256 * 256 ^ length xs = pow-succ' 256 (length xs) in
    step a x (256 ^ length xs) (256 ^ suc (length xs)) _ power next
  where
    step : (a x p q f : ℕ) → q ≡ 256 * p → (a * 256 + x) * p ≤ f → a * q ≤ f
    step a x p q f e l =
        let products : (a * 256 + x) * p ≡ a * (256 * p) + x * p = omega arith in
        let same : a * q ≡ a * (256 * p) = ap (λ n. a * n) e in
        omega (arith, products, same, l)

-- more than 32 bytes that don't begin with a zero are 2 ^ 256 at least
long_digits : (first : ℕ) (rest : List ℕ) → 0 < first → 32 ≤ length rest → 2 ^ 256 ≤ big_endian (first ∷ rest)
long_digits first rest s l =
    let below : (0 * 256 + first) * 256 ^ length rest ≤ big_endian (first ∷ rest) = from_power (0 * 256 + first) rest in
    let power : 256 ^ 32 ≤ 256 ^ length rest = pow-le-pow_right (lit≤ tt) l in
    let one : 1 * 256 ^ length rest ≤ (0 * 256 + first) * 256 ^ length rest = mul-le-mul_right (256 ^ length rest) (omega arith) in
    let same : 1 * 256 ^ length rest ≡ 256 ^ length rest = omega arith in
    le_trans power (le_trans (subst (λ n. n ≤ (0 * 256 + first) * 256 ^ length rest) same one) below)

magnitude_zero : (y : ℕ) (rest : List ℕ) → magnitude (0 ∷ y ∷ rest) ≡ y ∷ rest
magnitude_zero y rest = grind (arith, nat_tests)

magnitude_more : (x : ℕ) (rest : List ℕ) → 0 < x → magnitude (x ∷ rest) ≡ x ∷ rest
magnitude_more x rest l = grind (arith, nat_tests)

zero_or_more : (x : ℕ) → (0 ≡ x) ⊎ (0 < x)
zero_or_more x = grind arith

not_both : (m n k : ℕ) → m ≤ n → n ≡ k → k < m → ⊥
not_both m n k l e u = omega arith

-- a number of more than 32 bytes is past 2 ^ 256
pub long_magnitude : (content : List ℕ) (number : ℕ) → IntegerText content number → 32 < length (magnitude content) → number < 2 ^ 256 → ⊥
long_magnitude [] number t l u = absurd (omega (arith, t.some))
long_magnitude (x ∷ []) number t l u = elim (zero_or_more x) [
  | inl e ↦
      let P : ℕ → Type 0 = λ x. 32 < length (magnitude (x ∷ [])) in
      let l0 : 32 < length (magnitude (0 ∷ [])) = subst P (sym e) l in absurd (omega (arith, l0))
  | inr s ↦ absurd (omega (arith, ap length (magnitude_more x [] s), l))
]
long_magnitude (x ∷ y ∷ rest) number t l u = elim (zero_or_more x) [
  | inl e ↦ subst (λ x. IntegerText (x ∷ y ∷ rest) number → 32 < length (magnitude (x ∷ y ∷ rest)) → ⊥) e (zero y rest number u) t l
  | inr s ↦
      let long : 32 ≤ length (y ∷ rest) = omega (arith, ap length (magnitude_more x (y ∷ rest) s), l) in
      not_both (2 ^ 256) (big_endian (x ∷ y ∷ rest)) number (long_digits x (y ∷ rest) s long) t.value u
]
  where
    zero : (y : ℕ) (rest : List ℕ) (number : ℕ) → number < 2 ^ 256 → IntegerText (0 ∷ y ∷ rest) number → 32 < length (magnitude (0 ∷ y ∷ rest)) → ⊥
    zero y rest number u t l =
        let high : 128 ≤ y = t.minimal (omega arith) refl in
        let long : 32 ≤ length rest = omega (arith, ap length (magnitude_zero y rest), l) in
        not_both (2 ^ 256) (big_endian (y ∷ rest)) number (long_digits y rest (omega arith) long) t.value u

-- ---- the readers

integer_is : (content : List ℕ) → is_integer_text content ≡ true → IntegerText content (big_endian content)
integer_is content e = record {
  value = refl;
  some = grind (arith, nat_tests);
  not_negative = grind (arith, nat_tests);
  minimal = λ more zero. grind (arith, nat_tests);
}

-- what `unsigned_of` gives is the number of the content
pub unsigned_found : (tag : ℕ) (content : List ℕ) (number : ℕ) → unsigned_of tag content ≡ Ok number
    → (tag ≡ integer_tag) × IntegerText content number × (number < 2 ^ 64)
unfolding unsigned_of
unsigned_found tag content number e =
    let test : is_integer_text content ≡ true = grind (arith, nat_tests) in
    let is : big_endian content ≡ number = grind (arith, nat_tests) in
    (grind (arith, nat_tests), subst (IntegerText content) is (integer_is content test), grind (arith, nat_tests))

-- the number of the content is what `unsigned_of` gives
pub unsigned_again : (tag : ℕ) (content : List ℕ) (number : ℕ) → tag ≡ integer_tag → IntegerText content number → number < 2 ^ 64
    → unsigned_of tag content ≡ Ok number
unfolding unsigned_of
unsigned_again tag content number t text l = grind (arith, nat_tests)

-- zeros at the beginning change no number
zeros_in_front : (k : ℕ) (digits : List ℕ) → big_endian (replicate k 0 ++ digits) ≡ big_endian digits
zeros_in_front zero digits = refl
zeros_in_front (suc k) digits = zeros_in_front k digits

-- the byte 00 at the beginning changes no number
big_endian-magnitude : (content : List ℕ) → big_endian (magnitude content) ≡ big_endian content
big_endian-magnitude [] = refl
big_endian-magnitude (x ∷ []) = ap big_endian is
  where
    is : magnitude (x ∷ []) ≡ x ∷ []
    is = grind (arith, nat_tests)
big_endian-magnitude (x ∷ y ∷ rest) = elim (zero_or_more x) [
  | inl e ↦
      let P : ℕ → Type 0 = λ x. big_endian (magnitude (x ∷ y ∷ rest)) ≡ big_endian (x ∷ y ∷ rest) in
      subst P e (ap big_endian (magnitude_zero y rest))
  | inr s ↦ ap big_endian (magnitude_more x (y ∷ rest) s)
]

-- the 32 bytes of a number
abbrev pub scalar_bytes : List ℕ → List ℕ
scalar_bytes content = replicate (32 - length (magnitude content)) 0 ++ magnitude content

scalar_value : (content : List ℕ) → big_endian (scalar_bytes content) ≡ big_endian content
scalar_value content = zeros_in_front (32 - length (magnitude content)) (magnitude content) ∙ big_endian-magnitude content

-- what `scalar_of` gives is the number of the content in 32 bytes
pub scalar_found : (tag : ℕ) (content bytes : List ℕ) → scalar_of tag content ≡ Ok bytes
    → (tag ≡ integer_tag) × (length bytes ≡ 32) × IntegerText content (big_endian bytes)
unfolding scalar_of
scalar_found tag content bytes e =
    let test : is_integer_text content ≡ true = grind (arith, nat_tests) in
    let few : length (magnitude content) ≤ 32 = grind (arith, nat_tests) in
    let is : scalar_bytes content ≡ bytes = grind (arith, nat_tests) in
    let same : big_endian content ≡ big_endian bytes = sym (scalar_value content) ∙ ap big_endian is in
    let all : length (scalar_bytes content) ≡ 32 =
    length-append (replicate (32 - length (magnitude content)) 0) (magnitude content)
    ∙ omega (arith, length-replicate {A = ℕ} (32 - length (magnitude content)) 0) in
    (grind (arith, nat_tests), sym (ap length is) ∙ all, subst (IntegerText content) same (integer_is content test))
