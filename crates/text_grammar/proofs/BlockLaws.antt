-- Bytes of a text, 32 at a time: those in some ranges lose their marks, and the first that keeps its own ends the count.
use Rattle.std.proofs.Common.{◌≡◌, ℕ, ◌+◌, ◌≤◌, ◌<◌, Bool, true, false, not, ◌&&◌, ◌||◌, cond, leb, eqb, zero, suc, List, [], ◌∷◌, length, take, drop, map, replicate, refl, ap, ◌∙◌, arith, inl, inr}
use Rattle.std.specs.List.{list_all, prefix_len}
use Rattle.std.specs.Simd.Lanes.{zip2, sel_l}
use Rattle.std.proofs.lemmas.Bool.{cases_lt}
use Rattle.std.proofs.lemmas.Bool.Decides.{nat_tests}
use Rattle.std.proofs.lemmas.List.Sums.{prefix_len-le-length}
use Rattle.std.proofs.lemmas.Simd.{zip2_of_maps, splat_is_map}
use Rattle.text_grammar.specs.Bytes.{is_uri_byte}

-- ---- marks that are taken away

-- what is left of a mark
abbrev pub left : ℕ → ℕ → ℕ → ℕ → ℕ
left low high byte mark = cond (leb low byte && leb byte high) 0 mark

chosen : (p q : Bool) (mark : ℕ) → cond p (cond q 0 mark) mark ≡ cond (p && q) 0 mark
chosen true q mark = refl
chosen false q mark = refl

pub lanes_left : (low high n : ℕ) (block marks : List ℕ) → length block ≡ n → length marks ≡ n
    → sel_l (zip2 leb (replicate n low) block) (sel_l (zip2 leb block (replicate n high)) (replicate n 0) marks) marks ≡ zip2 (left low high) block marks
lanes_left low high zero [] [] b m = refl
lanes_left low high zero [] (mark ∷ marks) b m = absurd (omega arith)
lanes_left low high zero (byte ∷ block) marks b m = absurd (omega arith)
lanes_left low high (suc n) [] marks b m = absurd (omega arith)
lanes_left low high (suc n) (byte ∷ block) [] b m = absurd (omega arith)
lanes_left low high (suc n) (byte ∷ block) (mark ∷ marks) b m = λ i. chosen (leb low byte) (leb byte high) mark i ∷ lanes_left low high n block marks (omega arith) (omega arith) i

-- ---- the marks of a block, without those of the bytes in these ranges

abbrev pub marks_of : List (ℕ × ℕ) → List ℕ → List ℕ
marks_of [] block = replicate 32 255
marks_of (range ∷ more) block = zip2 (left range.0 range.1) block (marks_of more block)

abbrev marked : List (ℕ × ℕ) → ℕ → ℕ
marked [] byte = 255
marked (range ∷ more) byte = left range.0 range.1 byte (marked more byte)

-- Whether a byte is in one of the ranges.
abbrev pub is_in : List (ℕ × ℕ) → ℕ → Bool
is_in [] byte = false
is_in (range ∷ more) byte = (leb range.0 byte && leb byte range.1) || is_in more byte

same : (block : List ℕ) → block ≡ map (λ byte. byte) block
same [] = refl
same (byte ∷ block) = ap (λ more. byte ∷ more) (same block)

marks_are : (ranges : List (ℕ × ℕ)) (block : List ℕ) → length block ≡ 32 → marks_of ranges block ≡ map (marked ranges) block
marks_are [] block long = splat_is_map block 32 255 long
marks_are (range ∷ more) block long = zip2_of_maps (left range.0 range.1) (λ b. b) (marked more) block (same block) (marks_are more block long)

taken : (p : Bool) (mark : ℕ) → not (eqb (cond p 0 mark) 255) ≡ p || not (eqb mark 255)
taken true mark = refl
taken false mark = refl

passes : (ranges : List (ℕ × ℕ)) (byte : ℕ) → not (eqb (marked ranges byte) 255) ≡ is_in ranges byte
passes [] byte = refl
passes (range ∷ more) byte =
    let here = leb range.0 byte && leb byte range.1 in taken here (marked more byte) ∙ ap (λ t. here || t) (passes more byte)

prefix_map : (p : ℕ → Bool) (f : ℕ → ℕ) (xs : List ℕ) → prefix_len p (map f xs) ≡ prefix_len (λ x. p (f x)) xs
prefix_map p f [] = refl
prefix_map p f (x ∷ xs) = ap (λ n. cond (p (f x)) (1 + n) 0) (prefix_map p f xs)

-- the bytes before the first whose mark is left
pub marks_count : (ranges : List (ℕ × ℕ)) (p : ℕ → Bool) → ((byte : ℕ) → is_in ranges byte ≡ p byte) → (block : List ℕ) → length block ≡ 32
    → prefix_len (λ mark. not (eqb mark 255)) (marks_of ranges block) ≡ prefix_len p block
marks_count ranges p are block long =
    let kept : ℕ → Bool = λ mark. not (eqb mark 255) in
    ap (prefix_len kept) (marks_are ranges block long) ∙ prefix_map kept (marked ranges) block
    ∙ (λ i. prefix_len (λ byte. (passes ranges byte ∙ are byte) i) block)

-- ---- the ranges of a URI's bytes

abbrev pub uri_ranges : List (ℕ × ℕ)
uri_ranges = (93, 126) ∷ (63, 91) ∷ (61, 61) ∷ (35, 59) ∷ (33, 33) ∷ []

pub uri_in : (byte : ℕ) → is_in uri_ranges byte ≡ is_uri_byte byte
uri_in byte = grind (arith, nat_tests)

-- ---- the text

module _ (p : ℕ → Bool) where
  step : (test : Bool) (r all n : ℕ) → (r ≤ all) × (r < n → r ≡ all)
      → (cond test (1 + r) 0 ≤ cond test (1 + all) 0) × (cond test (1 + r) 0 < suc n → cond test (1 + r) 0 ≡ cond test (1 + all) 0)
  step true r all n h = (omega (arith, h.0), λ few. omega (arith, h.1 (omega (arith, few))))
  step false r all n h = (omega arith, λ few. refl)

  taken_of : (n : ℕ) (xs : List ℕ) → (prefix_len p (take n xs) ≤ prefix_len p xs) × (prefix_len p (take n xs) < n → prefix_len p (take n xs) ≡ prefix_len p xs)
  taken_of zero xs = (omega arith, λ few. absurd (omega (arith, few)))
  taken_of (suc n) [] = (omega arith, λ few. refl)
  taken_of (suc n) (x ∷ xs) = step (p x) (prefix_len p (take n xs)) (prefix_len p xs) n (taken_of n xs)

  on_from : (place : ℕ) (xs : List ℕ) → place ≤ prefix_len p xs → prefix_len p xs ≡ place + prefix_len p (drop place xs)
  on_from zero xs all = omega arith
  on_from (suc place) [] all = absurd (omega (arith, all))
  on_from (suc place) (x ∷ xs) all = go (p x) all (on_from place xs)
    where
      go : (test : Bool) → suc place ≤ cond test (1 + prefix_len p xs) 0 → (place ≤ prefix_len p xs → prefix_len p xs ≡ place + prefix_len p (drop place xs))
          → cond test (1 + prefix_len p xs) 0 ≡ suc place + prefix_len p (drop place xs)
      go true h more = let m = more (omega (arith, h)) in omega (arith, m)
      go false h more = absurd (omega (arith, h))

  -- what a block that follows such bytes alone tells: one that isn't whole, or is the last, where they end
  pub block_on : (text : List ℕ) (place count : ℕ) → place ≤ prefix_len p text → count ≡ prefix_len p (take 32 (drop place text))
      → (place + count ≤ prefix_len p text) × (count < 32 → place + count ≡ prefix_len p text) × (length text ≤ place + 32 → place + count ≡ prefix_len p text)
  block_on text place count all is =
      let here = taken_of 32 (drop place text) in
      let from = on_from place text all in
      let short : count < 32 → place + count ≡ prefix_len p text = λ few. omega (arith, from, is, here.1 (omega (arith, is, few))) in
      let most = prefix_len-le-length p text in
      (omega (arith, here.0, from, is), short, λ end. last count (omega (arith, here.0, from, is)) short (omega (arith, end, most)))
    where
      last : (c : ℕ) → place + c ≤ prefix_len p text → (c < 32 → place + c ≡ prefix_len p text) → prefix_len p text ≤ place + 32 → place + c ≡ prefix_len p text
      last c h short most = elim (cases_lt c 32) [ inl few ↦ short few | inr many ↦ omega (arith, h, many, most) ]

  full : (test : Bool) (n l : ℕ) (rest : Bool) → eqb n l ≡ rest → eqb (cond test (1 + n) 0) (suc l) ≡ (test && rest)
  full true n l rest h = grind (arith, nat_tests, h)
  full false n l rest h = grind (arith, nat_tests)

  -- the count is the length exactly if each byte passes
  pub all_counted : (text : List ℕ) → eqb (prefix_len p text) (length text) ≡ list_all p text
  all_counted [] = refl
  all_counted (x ∷ xs) = full (p x) (prefix_len p xs) (length xs) (list_all p xs) (all_counted xs)
