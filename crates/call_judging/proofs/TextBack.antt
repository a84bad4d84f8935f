-- What can be read back of numbers, places and response codes.
use Rattle.std.proofs.Common.{◌≡◌, ℕ, ◌==◌, ◌||◌, ◌<◌, ◌^◌, Bool, true, false, ◌&&◌, cond, List, [], ◌∷◌, ◌++◌, length, get_or, refl, sym, ◌∙◌, ap, arith}
use Rattle.std.specs.Char.{is_ascii_digit}
use Rattle.std.specs.Fmt.{decimal}
use Rattle.std.specs.List.{list_all}
use Rattle.std.specs.Str.Parse.{digits_value}
use Rattle.std.proofs.lemmas.Fmt.{decimal_nonempty, digits_decimal, digits_value-decimal}
use Rattle.std.proofs.lemmas.Option.{same_Some}
use Rattle.text_grammar.specs.Cut.{cut, lacks}
use Rattle.text_grammar.proofs.CutLaws.{cut_again}
use Rattle.text_grammar.proofs.DecimalLaws.{decimal_lacks, digit_numerals}
use Rattle.verify_rules.specs.Code.{code_of, is_unsupported}
use Rattle.verify_rules.specs.declared.refusal.Place.{Place}
use Rattle.verify_rules.specs.declared.refusal.Refusal.{Refusal}
use Rattle.call_judging.specs.PlaceText.{PlaceFits, place_text}

-- ---- texts that are cut at a byte

pub no_text : (a : List ℕ) (byte : ℕ) (rest : List ℕ) → [] ≡ a ++ byte ∷ rest → ⊥
no_text [] byte rest same = cc
no_text (b ∷ a) byte rest same = cc

-- both parts are the same
pub record Both (a b : List ℕ) (r s : List ℕ) : Type 0 where
  pub before : a ≡ b
  pub behind : r ≡ s

parts : (a b r s : List ℕ) → ◌≡◌ {A = List ℕ × List ℕ} (a, r) (b, s) → Both a b r s
parts a b r s e = record { before = ap (λ (x : List ℕ × List ℕ). x.0) e; behind = ap (λ (x : List ℕ × List ℕ). x.1) e }

pub halves : (byte : ℕ) (a b r s : List ℕ) → lacks byte a ≡ true → lacks byte b ≡ true → a ++ byte ∷ r ≡ b ++ byte ∷ s → Both a b r s
halves byte a b r s left right same =
    parts a b r s (same_Some (a, r) (b, s) (sym (cut_again byte a r left) ∙ ap (cut byte) same ∙ cut_again byte b s right))

-- ---- numbers

pub same_number : (m n : ℕ) → m < 2 ^ 64 → n < 2 ^ 64 → decimal m ≡ decimal n → m ≡ n
same_number m n low high same = sym (digits_value-decimal digit_numerals m low) ∙ ap (digits_value 10) same ∙ digits_value-decimal digit_numerals n high

pub record SameNumber (m n : ℕ) (r s : List ℕ) : Type 0 where
  pub number : m ≡ n
  pub behind : r ≡ s

-- a number, a byte that is no digit, and what comes after it
pub same_then : (byte m n : ℕ) (r s : List ℕ) → is_ascii_digit byte ≡ false → m < 2 ^ 64 → n < 2 ^ 64 → decimal m ++ byte ∷ r ≡ decimal n ++ byte ∷ s → SameNumber m n r s
same_then byte m n r s none low high same =
    let h = halves byte (decimal m) (decimal n) r s (decimal_lacks m byte low none) (decimal_lacks n byte high none) same in
    record { number = same_number m n low high h.before; behind = h.behind }

left_true : (s t : Bool) → (s && t) ≡ true → s ≡ true
left_true true t both = refl
left_true false t both = both

first_by : (text rest : List ℕ) → list_all is_ascii_digit text ≡ true → 0 < length text → is_ascii_digit (get_or (text ++ rest) 0 0) ≡ true
first_by [] rest digits some = absurd (omega arith)
first_by (byte ∷ text) rest digits some = left_true (is_ascii_digit byte) (list_all is_ascii_digit text) digits

-- a number begins with a digit
pub first_digit : (n : ℕ) (rest : List ℕ) → n < 2 ^ 64 → is_ascii_digit (get_or (decimal n ++ rest) 0 0) ≡ true
first_digit n rest low = first_by (decimal n) rest (digits_decimal digit_numerals n low) (decimal_nonempty n low)

pub place_is : (a b : Place) → a.field ≡ b.field → a.part ≡ b.part → a ≡ b
place_is a b field part = ap (λ x. record { field = x; part = a.part }) field ∙ ap (λ x. record { field = b.field; part = x }) part

pub same_place : (a b : Place) → PlaceFits a → PlaceFits b → place_text a ≡ place_text b → a ≡ b
same_place a b left right same =
    let field = same_then 46 a.field b.field (decimal a.part) (decimal b.part) refl (omega (arith, left.field)) (omega (arith, right.field)) same in
    place_is a b field.number (same_number a.part b.part (omega (arith, left.part)) (omega (arith, right.part)) field.behind)

-- ---- codes

among : (a b c d e : Bool) → cond a 400 (cond b 428 (cond c 403 (cond d 436 (cond e 437 438)))) < 2 ^ 64
among true b c d e = omega arith
among false true c d e = omega arith
among false false true d e = omega arith
among false false false true e = omega arith
among false false false false true = omega arith
among false false false false false = omega arith

pub code_fits : (rule : ℕ) → code_of rule < 2 ^ 64
code_fits rule = among (rule == 1) (rule == 2 || rule == 4) (rule == 9) (rule == 10) (is_unsupported rule)

pub refusal_is : (a b : Refusal) → a.rule ≡ b.rule → a.place ≡ b.place → a ≡ b
refusal_is a b rule place = ap (λ x. record { rule = x; place = a.place }) rule ∙ ap (λ x. record { rule = b.rule; place = x }) place
