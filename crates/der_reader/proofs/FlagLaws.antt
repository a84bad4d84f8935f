-- Laws of the flags of a BIT STRING, bit for bit.
use Rattle.std.proofs.Common.{◌≡◌, ℕ, zero, suc, ◌+◌, ◌-◌, ◌*◌, ◌/◌, ◌%◌, ◌^◌, ◌<◌, ◌≤◌, true, cond, ◌&&◌, nat_le, List, [], ◌∷◌, length, get_or, Result, Ok, Err, IfOk, refl, sym, ap, subst, inl, inr, ◌⊎◌, ◌∙◌, arith}
use Rattle.std.specs.Int.{w16, bit_at, reverse_bits, reverse_bits_onto}
use Rattle.std.proofs.lemmas.Bool.Decides.{nat_tests}
use Rattle.std.proofs.lemmas.Nat.Bits.{bit_at-suc, bit_at_lowest, bit_at_cat_high, bit_at_cat_low, same_from_bits_below, bit_at-zero}
use Rattle.std.proofs.Math.Nat.{mul-le-mul_right, two-pow-succ, zero-mod}
use Rattle.der_reader.specs.declared.fault.DerFault.{DerFault}
use Rattle.der_reader.specs.Fault.{bad_value}
use Rattle.der_reader.specs.BitString.{BitText, FlagsText, string_bit, is_bit_text, flags_in}
use Rattle.der_reader.specs.Elem.{AllBytes}
use Rattle.der_reader.specs.Tags.{bit_string_tag}
use Rattle.lists.proofs.StepLaws.{taken}

-- ---- `reverse_bits_onto`, bit for bit

onto_high : (k n a i : ℕ) → k ≤ i → bit_at (reverse_bits_onto k n a) i ≡ bit_at a (i - k)
unfolding reverse_bits_onto
onto_high zero n a i l = let e : i - 0 ≡ i = omega arith in ap (λ i. bit_at a i) (sym e)
onto_high (suc k) n a i l =
    let before : i - k ≡ suc (i - suc k) = omega arith in
    let half : (a * 2 + n % 2) / 2 ≡ a = omega arith in
    onto_high k (n / 2) (a * 2 + n % 2) i (omega arith)
    ∙ ap (λ j. bit_at (a * 2 + n % 2) j) before
    ∙ bit_at-suc (a * 2 + n % 2) (i - suc k)
    ∙ ap (λ m. bit_at m (i - suc k)) half

onto_low : (k n a i : ℕ) → i < k → bit_at (reverse_bits_onto k n a) i ≡ bit_at n (k - 1 - i)
unfolding reverse_bits_onto
onto_low zero n a i l = absurd (omega arith)
onto_low (suc k) n a i l = elim (below i k l) [
  | inl s ↦
      let before : suc k - 1 - i ≡ suc (k - 1 - i) = omega arith in
      onto_low k (n / 2) (a * 2 + n % 2) i s ∙ sym (bit_at-suc n (k - 1 - i)) ∙ ap (λ j. bit_at n j) (sym before)
  | inr e ↦
      let none : i - k ≡ 0 = omega arith in
      let last : suc k - 1 - i ≡ 0 = omega arith in
      let odd : (a * 2 + n % 2) % 2 ≡ n % 2 = omega arith in
      onto_high k (n / 2) (a * 2 + n % 2) i (omega arith)
      ∙ ap (λ j. bit_at (a * 2 + n % 2) j) none
      ∙ bit_at_lowest (a * 2 + n % 2) ∙ odd ∙ sym (bit_at_lowest n) ∙ ap (λ j. bit_at n j) (sym last)
]
  where
    below : (i k : ℕ) → i < suc k → (i < k) ⊎ (i ≡ k)
    below i k l = grind arith

reversed : (n i : ℕ) → i < 16 → bit_at (reverse_bits w16 n) i ≡ bit_at n (15 - i)
reversed n i l = onto_low 16 n 0 i l

-- the bits of two bytes, each from its highest on
two_bytes : (a b i : ℕ) → b < 256 → i < 16 → bit_at (reverse_bits w16 (a * 256 + b)) i ≡ string_bit (a ∷ b ∷ []) i
two_bytes a b i small l = reversed (a * 256 + b) i l ∙ elim (half i) [
  | inl s ↦
      let zero : i / 8 ≡ 0 = omega arith in
      let place : 15 - i - 8 ≡ 7 - i % 8 = omega arith in
      bit_at_cat_high a 8 b (15 - i) small (omega arith)
      ∙ ap (λ j. bit_at a j) place
      ∙ ap (λ k. bit_at (get_or (a ∷ b ∷ []) k 0) (7 - i % 8)) (sym zero)
  | inr s ↦
      let one : i / 8 ≡ 1 = omega arith in
      let place : 15 - i ≡ 7 - i % 8 = omega arith in
      bit_at_cat_low a 8 b (15 - i) (omega arith)
      ∙ ap (λ j. bit_at b j) place
      ∙ ap (λ k. bit_at (get_or (a ∷ b ∷ []) k 0) (7 - i % 8)) (sym one)
]
  where
    half : (i : ℕ) → (i < 8) ⊎ (8 ≤ i)
    half i = grind arith

-- no more bits than the type has
onto_small : (k n a : ℕ) → reverse_bits_onto k n a < (a + 1) * 2 ^ k
unfolding reverse_bits_onto
onto_small zero n a = omega arith
onto_small (suc k) n a =
    step (reverse_bits_onto k (n / 2) (a * 2 + n % 2)) a (n % 2) (2 ^ k) (2 ^ suc k) (omega arith) (two-pow-succ k) (onto_small k (n / 2) (a * 2 + n % 2))
  where
    step : (r a b p q : ℕ) → b < 2 → q ≡ p + p → r < (a * 2 + b + 1) * p → r < (a + 1) * q
    step r a b p q small e l =
        let more : (a * 2 + b + 1) * p ≤ ((a + 1) * 2) * p = mul-le-mul_right p (omega arith) in
        let same : ((a + 1) * 2) * p ≡ (a + 1) * (p + p) = omega arith in
        let at : (a + 1) * q ≡ (a + 1) * (p + p) = ap (λ n. (a + 1) * n) e in
        omega (arith, more, same, at, l)

-- ---- the laws

-- the number that is read from a content
abbrev word : List ℕ → ℕ
word content = get_or content 1 0 * 256 + get_or content 2 0

-- the flags of a content are its bits
flags_bits : (unused : ℕ) (bytes : List ℕ) → AllBytes bytes → length bytes ≤ 2 → (i : ℕ) → i < 16
    → bit_at (reverse_bits w16 (word (unused ∷ bytes))) i ≡ string_bit bytes i
flags_bits unused [] b l i s =
    reversed 0 i s ∙ bit_at-zero (15 - i) ∙ sym (bit_at-zero (7 - i % 8))
flags_bits unused (x ∷ []) b l i s = two_bytes x 0 i (omega arith) s ∙ same (i / 8)
  where
    same : (k : ℕ) → bit_at (get_or (x ∷ 0 ∷ []) k 0) (7 - i % 8) ≡ bit_at (get_or (x ∷ []) k 0) (7 - i % 8)
    same zero = refl
    same (suc zero) = refl
    same (suc (suc k)) = refl
flags_bits unused (x ∷ y ∷ []) b l i s = two_bytes x y i (b 1) s
flags_bits unused (x ∷ y ∷ z ∷ rest) b l i s = absurd (omega arith)

text_found : (unused : ℕ) (bytes : List ℕ) → length bytes ≤ 2 → is_bit_text (unused ∷ bytes) ≡ true → BitText (unused ∷ bytes) unused bytes
text_found unused [] l t = record {
  text = refl;
  count = grind (arith, nat_tests);
  empty = λ _. grind (arith, nat_tests);
  zeros = zero-mod (2 ^ unused);
}
text_found unused (x ∷ []) l t = record {
  text = refl;
  count = grind (arith, nat_tests);
  empty = λ e. cc;
  zeros = grind (arith, nat_tests);
}
text_found unused (x ∷ y ∷ []) l t = record {
  text = refl;
  count = grind (arith, nat_tests);
  empty = λ e. cc;
  zeros = grind (arith, nat_tests);
}
text_found unused (x ∷ y ∷ z ∷ rest) l t = absurd (omega arith)

text_again : (unused : ℕ) (bytes : List ℕ) → length bytes ≤ 2 → BitText (unused ∷ bytes) unused bytes → is_bit_text (unused ∷ bytes) ≡ true
text_again unused [] l t = let none : unused ≡ 0 = t.empty refl in grind (arith, nat_tests, t.count)
text_again unused (x ∷ []) l t = let zeros : x % 2 ^ unused ≡ 0 = t.zeros in grind (arith, nat_tests, t.count)
text_again unused (x ∷ y ∷ []) l t = let zeros : y % 2 ^ unused ≡ 0 = t.zeros in grind (arith, nat_tests, t.count)
text_again unused (x ∷ y ∷ z ∷ rest) l t = absurd (omega arith)

pub flags_found : (content : List ℕ) (flags : ℕ) → AllBytes content → flags_in content ≡ Ok flags → FlagsText content flags
unfolding flags_in
flags_found [] flags b e = absurd (grind (arith, nat_tests))
flags_found (unused ∷ bytes) flags b e =
    let t = taken (is_bit_text (unused ∷ bytes) && nat_le (length (unused ∷ bytes)) 3) _ flags _ e in
    let both = t.0 in
    let few : length bytes ≤ 2 = grind (arith, nat_tests) in
    let text : is_bit_text (unused ∷ bytes) ≡ true = grind (arith, nat_tests) in
    record {
      unused = unused;
      bytes = bytes;
      text = text_found unused bytes few text;
      few = omega arith;
      bits = λ i s. ap (λ n. bit_at n i) (sym t.1) ∙ flags_bits unused bytes (λ k. b (suc k)) few i s;
    }

-- the test accepts the text of few bits
accepted : (content : List ℕ) → is_bit_text content ≡ true → length content ≤ 3 → flags_in content ≡ Ok (reverse_bits w16 (word content))
unfolding flags_in
accepted content t l = ap (λ b. let r : Result ℕ DerFault = cond b (Ok (reverse_bits w16 (word content))) (Err bad_value) in r) both
  where
    both : is_bit_text content && nat_le (length content) 3 ≡ true
    both = grind (arith, nat_tests)

pub flags_again : (content : List ℕ) (flags : ℕ) → AllBytes content → FlagsText content flags → flags < 2 ^ 16 → flags_in content ≡ Ok flags
flags_again content flags b t l =
    let few : length t.bytes ≤ 2 = omega (arith, t.few, t.text.count) in
    let within : AllBytes (t.unused ∷ t.bytes) = subst AllBytes t.text.text b in
    let text : is_bit_text (t.unused ∷ t.bytes) ≡ true =
    text_again t.unused t.bytes few (subst (λ w. BitText w t.unused t.bytes) t.text.text t.text) in
    let is : reverse_bits w16 (word (t.unused ∷ t.bytes)) ≡ flags =
    same_from_bits_below 16 _ _ (onto_small 16 (word (t.unused ∷ t.bytes)) 0) l
    (λ i s. flags_bits t.unused t.bytes (λ k. within (suc k)) few i s ∙ sym (t.bits i s)) in
    ap flags_in t.text.text ∙ accepted (t.unused ∷ t.bytes) text (omega arith)
    ∙ ap (λ n. let r : Result ℕ DerFault = Ok n in r) is

-- the same of an answer
pub flags_answer_found : (tag : ℕ) (content : List ℕ) (r : Result ℕ DerFault) → AllBytes content → tag ≡ bit_string_tag → r ≡ flags_in content
    → IfOk r (λ flags. (tag ≡ bit_string_tag) × FlagsText content flags)
flags_answer_found tag content (Ok flags) b t e = (t, flags_found content flags b (sym e))
flags_answer_found tag content (Err f) b t e = tt

pub flags_answer_again : (content : List ℕ) (r : Result ℕ DerFault) → AllBytes content → r ≡ flags_in content
    → (flags : ℕ) → FlagsText content flags → flags < 2 ^ 16 → r ≡ Ok flags
flags_answer_again content r b e flags t l = e ∙ flags_again content flags b t l

-- the content of no bits
pub no_flags : (content : List ℕ) → length content ≡ 1 → get_or content 0 0 ≡ 0 → flags_in content ≡ Ok 0
unfolding flags_in reverse_bits_onto
no_flags [] l z = absurd (omega arith)
no_flags (x ∷ []) l z = let P : ℕ → Type 0 = λ x. flags_in (x ∷ []) ≡ Ok 0 in subst P (sym z) refl
no_flags (x ∷ y ∷ rest) l z = absurd (omega arith)
