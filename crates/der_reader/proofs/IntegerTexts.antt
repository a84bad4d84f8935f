-- The content of an INTEGER: the fewest bytes of a number are one text, and no other.
use Rattle.std.proofs.Common.{◌≡◌, ℕ, zero, suc, ◌+◌, ◌*◌, ◌/◌, ◌%◌, ◌^◌, ◌<◌, ◌≤◌, ◌⊎◌, inl, inr, true, false, nat_lt, List, [], ◌∷◌, ◌++◌, length, get_or, take, refl, sym, ap, ◌∙◌, append_assoc, length-append, length-take, arith}
use Rattle.std.specs.Prelude.{fold}
use Rattle.der_reader.proofs.NextLaws.{take_bytes}
use Rattle.std.proofs.Math.Nat.{pow-succ'}
use Rattle.std.proofs.lemmas.Bool.Decides.{nat_tests}
use Rattle.der_reader.specs.Elem.{AllBytes}
use Rattle.der_reader.specs.Integer.{IntegerText, big_endian, integer_within, integer_content}

-- ---- one byte more

from_last : (a b : ℕ) (bytes : List ℕ) → fold (λ n byte. n * 256 + byte) a (bytes ++ b ∷ []) ≡ fold (λ n byte. n * 256 + byte) a bytes * 256 + b
from_last a b [] = refl
from_last a b (x ∷ xs) = from_last (a * 256 + x) b xs

last_byte : (bytes : List ℕ) (b : ℕ) → big_endian (bytes ++ b ∷ []) ≡ big_endian bytes * 256 + b
last_byte bytes b = from_last 0 b bytes

single : (n : ℕ) → n < 128 → IntegerText (n ∷ []) n
single n l = record { value = omega arith; some = omega arith; not_negative = l; minimal = λ more zero. absurd (omega (arith, more)) }

grown : (front : List ℕ) (n : ℕ) → IntegerText front (n / 256) → 128 ≤ n → IntegerText (front ++ n % 256 ∷ []) n
grown [] n t l = absurd (omega (arith, t.some))
grown (x ∷ []) n t l =
    let value : 0 * 256 + x ≡ n / 256 = t.value in
    record {
      value = omega (arith, value);
      some = omega arith;
      not_negative = t.not_negative;
      minimal = λ more zero. omega (arith, value, zero, l);
    }
grown (x ∷ y ∷ rest) n t l = record {
  value = last_byte (x ∷ y ∷ rest) (n % 256) ∙ ap (λ m. m * 256 + n % 256) t.value ∙ omega arith;
  some = omega arith;
  not_negative = t.not_negative;
  minimal = λ more zero. t.minimal (omega arith) zero;
}

-- ---- the text of a number is one

small_is : (k n : ℕ) → n < 128 → integer_within k n ≡ n ∷ []
small_is zero n l = refl
small_is (suc k) n l = let test : nat_lt n 128 ≡ true = grind (arith, nat_tests) in rw test refl

large_is : (k n : ℕ) → 128 ≤ n → integer_within (suc k) n ≡ integer_within k (n / 256) ++ n % 256 ∷ []
large_is k n l = let test : nat_lt n 128 ≡ false = grind (arith, nat_tests) in rw test refl

small_or_large : (n : ℕ) → (n < 128) ⊎ (128 ≤ n)
small_or_large n = grind arith

within_is_text : (k n : ℕ) → n ≤ k → IntegerText (integer_within k n) n
within_is_text zero n l = single n (omega arith)
within_is_text (suc k) n l = elim (small_or_large n) [
  | inl s ↦ rw (small_is (suc k) n s) (single n s)
  | inr m ↦ rw (large_is k n m) (grown (integer_within k (n / 256)) n (within_is_text k (n / 256) (omega arith)) m)
]

-- more room than a number needs makes no difference
enough : (k m n : ℕ) → n ≤ k → n ≤ m → integer_within k n ≡ integer_within m n
enough zero zero n l r = refl
enough zero (suc m) n l r = sym (small_is (suc m) n (omega (arith, l)))
enough (suc k) zero n l r = small_is (suc k) n (omega (arith, r))
enough (suc k) (suc m) n l r = elim (small_or_large n) [
  | inl s ↦ small_is (suc k) n s ∙ sym (small_is (suc m) n s)
  | inr big ↦
      large_is k n big ∙ ap (λ front. front ++ n % 256 ∷ []) (enough k m (n / 256) (omega (arith, l, big)) (omega (arith, r, big)))
      ∙ sym (large_is m n big)
]

pub content_small : (n : ℕ) → n < 128 → integer_content n ≡ n ∷ []
unfolding integer_content
content_small n l = small_is n n l

pub content_large : (n : ℕ) → 128 ≤ n → integer_content n ≡ integer_content (n / 256) ++ n % 256 ∷ []
unfolding integer_content
content_large zero l = absurd (omega (arith, l))
content_large (suc k) l =
    large_is k (suc k) l
    ∙ ap (λ front. front ++ suc k % 256 ∷ []) (enough k (suc k / 256) (suc k / 256) (omega (arith, l)) (omega arith))

-- the last byte after the others
pub large_written : (old front new : List ℕ) (n : ℕ) → (n < 128 → ⊥) → front ≡ old ++ integer_content (n / 256)
    → new ≡ front ++ n % 256 ∷ [] → new ≡ old ++ integer_content n
large_written old front new n l f e =
    let large : 128 ≤ n = grind (arith, l) in
    e ∙ ap (λ front. front ++ n % 256 ∷ []) f ∙ append_assoc old (integer_content (n / 256)) (n % 256 ∷ [])
    ∙ ap (λ text. old ++ text) (sym (content_large n large))

pub integer_is_text : (n : ℕ) → IntegerText (integer_content n) n
unfolding integer_content
integer_is_text n = within_is_text n n (omega arith)

-- ---- and no other

-- a text and its last byte
cut_last : (m : ℕ) (bytes : List ℕ) → length bytes ≡ suc m → bytes ≡ take m bytes ++ get_or bytes m 0 ∷ []
cut_last m [] e = absurd (omega arith)
cut_last zero (x ∷ []) e = refl
cut_last zero (x ∷ y ∷ rest) e = absurd (omega arith)
cut_last (suc m) (x ∷ xs) e = ap (λ l. x ∷ l) (cut_last m xs (omega (arith, e)))

-- what a text of several bytes is without its last
front_text : (m : ℕ) (bytes : List ℕ) (n : ℕ) → length bytes ≡ suc (suc m) → AllBytes bytes → IntegerText bytes n
    → IntegerText (take (suc m) bytes) (n / 256) × (n % 256 ≡ get_or bytes (suc m) 0)
front_text m [] n e b t = absurd (omega arith)
front_text m (x ∷ []) n e b t = absurd (omega arith)
front_text zero (x ∷ y ∷ rest) n e b t =
    let none : rest ≡ [] = empty rest (omega (arith, e)) in
    let value : big_endian (x ∷ y ∷ []) ≡ n = ap (λ r. big_endian (x ∷ y ∷ r)) (sym none) ∙ t.value in
    let below : y < 256 = b 1 in (
      record {
        value = omega (arith, value, below);
        some = omega arith;
        not_negative = t.not_negative;
        minimal = λ more zero. absurd (omega (arith, more));
      },
      omega (arith, value, below),
    )
  where
    empty : (l : List ℕ) → length l ≡ 0 → l ≡ []
    empty [] e = refl
    empty (x ∷ xs) e = absurd (omega arith)
front_text (suc m) (x ∷ y ∷ rest) n e b t =
    let bytes : List ℕ = x ∷ y ∷ rest in
    let front : List ℕ = x ∷ y ∷ take m rest in
    let last : ℕ = get_or rest m 0 in
    let below : last < 256 = b (suc (suc m)) in
    let all : bytes ≡ front ++ last ∷ [] = cut_last (suc (suc m)) bytes e in
    let value : big_endian front * 256 + last ≡ n = sym (last_byte front last) ∙ ap big_endian (sym all) ∙ t.value in (
      record {
        value = omega (arith, value, below);
        some = omega arith;
        not_negative = t.not_negative;
        minimal = λ more zero. t.minimal (omega arith) zero;
      },
      omega (arith, value, below),
    )

-- a text of several bytes is of a number of 128 at least
large_text : (m : ℕ) (bytes : List ℕ) (n : ℕ) → length bytes ≡ suc (suc m) → AllBytes bytes → IntegerText bytes n → 128 ≤ n
large_text m [] n e b t = absurd (omega arith)
large_text m (x ∷ []) n e b t = absurd (omega arith)
large_text zero (x ∷ y ∷ rest) n e b t =
    let f = front_text zero (x ∷ y ∷ rest) n e b t in
    let first : 0 * 256 + x ≡ n / 256 = f.0.value in
    elim (none_or_more x) [
      | inl z ↦
          let high : 128 ≤ y = t.minimal (omega arith) z in
          let last : n % 256 ≡ y = f.1 in
          omega (arith, high, last)
      | inr s ↦ omega (arith, first, s)
    ]
  where
    none_or_more : (x : ℕ) → (x ≡ 0) ⊎ (0 < x)
    none_or_more x = grind arith
large_text (suc m) (x ∷ y ∷ rest) n e b t =
    let f = front_text (suc m) (x ∷ y ∷ rest) n e b t in
    let size : length (x ∷ y ∷ take m rest) ≡ suc (suc m) = omega (arith, e, length-take m rest) in
    let part : 128 ≤ n / 256 = large_text m (x ∷ y ∷ take m rest) (n / 256) size (take_bytes (suc (suc m)) (x ∷ y ∷ rest) b) f.0 in
    omega (arith, part)

text_is : (m k : ℕ) (bytes : List ℕ) (n : ℕ) → length bytes ≡ suc m → AllBytes bytes → IntegerText bytes n → n ≤ k
    → bytes ≡ integer_within k n
text_is m k [] n e b t l = absurd (omega arith)
text_is zero k (x ∷ y ∷ rest) n e b t l = absurd (omega arith)
text_is zero k (x ∷ []) n e b t l =
    let value : 0 * 256 + x ≡ n = t.value in
    let is : x ≡ n = omega (arith, value) in
    let small : n < 128 = omega (arith, is, t.not_negative) in
    ap (λ x. x ∷ []) is ∙ sym (small_is k n small)
text_is (suc m) zero (x ∷ xs) n e b t l = absurd (omega (arith, large_text m (x ∷ xs) n e b t, l))
text_is (suc m) (suc k) (x ∷ xs) n e b t l =
    let f = front_text m (x ∷ xs) n e b t in
    let large : 128 ≤ n = large_text m (x ∷ xs) n e b t in
    let front : List ℕ = take (suc m) (x ∷ xs) in
    let size : length front ≡ suc m = omega (arith, e, length-take m xs) in
    let same : front ≡ integer_within k (n / 256) =
    text_is m k front (n / 256) size (take_bytes (suc m) (x ∷ xs) b) f.0 (omega (arith, l, large)) in
    cut_last (suc m) (x ∷ xs) e ∙ ap (λ l. l ++ get_or (x ∷ xs) (suc m) 0 ∷ []) same
    ∙ ap (λ last. integer_within k (n / 256) ++ last ∷ []) (sym f.1) ∙ sym (large_is k n large)

-- a text of a number is the one that `integer_content` gives
pub integer_text_is : (bytes : List ℕ) (n : ℕ) → AllBytes bytes → IntegerText bytes n → bytes ≡ integer_content n
unfolding integer_content
integer_text_is [] n b t = absurd (omega (arith, t.some))
integer_text_is (x ∷ xs) n b t = text_is (length xs) n (x ∷ xs) n refl b t (omega arith)

-- ---- how long it is

short_within : (j k n : ℕ) → n < 128 * 256 ^ j → length (integer_within k n) ≤ suc j
short_within j zero n l = omega arith
short_within zero (suc k) n l = rw (small_is (suc k) n (omega (arith, l))) (omega arith)
short_within (suc j) (suc k) n l = elim (small_or_large n) [
  | inl s ↦ rw (small_is (suc k) n s) (omega arith)
  | inr m ↦
      let power : 256 ^ suc j ≡ 256 * 256 ^ j = pow-succ' 256 j in
      let rest : length (integer_within k (n / 256)) ≤ suc j = short_within j k (n / 256) (smaller (256 ^ j) (256 ^ suc j) power l) in
      rw (large_is k n m) (omega (arith, rest, length-append (integer_within k (n / 256)) (n % 256 ∷ [])))
]
  where
    smaller : (p q : ℕ) → q ≡ 256 * p → n < 128 * q → n / 256 < 128 * p
    smaller p q e l = omega (arith, e, l)

pub integer_short : (n : ℕ) → n < 2 ^ 64 → length (integer_content n) ≤ 9
unfolding integer_content
integer_short n l = short_within 8 n n (omega (arith, l))
