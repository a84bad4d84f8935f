-- What is known of a list by the one at an index.
use Rattle.std.proofs.Common.{◌≡◌, ℕ, zero, suc, ◌<◌, ◌≤◌, ◌||◌, Bool, true, false, List, [], ◌∷◌, ◌++◌, length, drop, ◌+◌, Some, refl, sym, ap, ◌∙◌, append_assoc, length-append, arith}
use Rattle.std.proofs.lemmas.Bool.{and_parts}
use Rattle.std.specs.List.{list_all, list_any, slice_get}
use Rattle.der_reader.specs.Elem.{element_text}
use Rattle.claim_constraints.specs.ConstraintsText.{elements}
use Rattle.claim_constraints.proofs.ElementLaws.{longer}

same_one : {X : Type 0} (x y : X) → Some x ≡ Some y → x ≡ y
same_one x y e = cc

-- all pass, so this one does
pub passes_at : {X : Type 0} (p : X → Bool) (xs : List X) (index : ℕ) (x : X) → slice_get xs index ≡ Some x → list_all p xs ≡ true → p x ≡ true
passes_at p [] index x at all = cc
passes_at p (y ∷ ys) zero x at all = ap p (sym (same_one y x at)) ∙ (and_parts (p y) (list_all p ys) all).0
passes_at p (y ∷ ys) (suc index) x at all = passes_at p ys index x at (and_parts (p y) (list_all p ys) all).1

-- this one doesn't pass, so not all do
pub fails_at : {X : Type 0} (p : X → Bool) (xs : List X) (index : ℕ) (x : X) → slice_get xs index ≡ Some x → p x ≡ false → list_all p xs ≡ false
fails_at p xs index x at fails = of (list_all p xs) refl
  where
    of : (t : Bool) → list_all p xs ≡ t → t ≡ false
    of true e = let k = sym (passes_at p xs index x at e) ∙ fails in absurd cc
    of false e = refl

-- this one passes, so one does
pub one_at : {X : Type 0} (p : X → Bool) (xs : List X) (index : ℕ) (x : X) → slice_get xs index ≡ Some x → p x ≡ true → list_any p xs ≡ true
one_at p [] index x at one = cc
one_at p (y ∷ ys) zero x at one = let k : p y ≡ true = ap p (same_one y x at) ∙ one in rw k refl
one_at p (y ∷ ys) (suc index) x at one = let k = one_at p ys index x at one in of (p y) k
  where
    of : (t : Bool) → list_any p ys ≡ true → (t || list_any p ys) ≡ true
    of true k = refl
    of false k = k

-- the content of an element is shorter than all elements
pub small_at : {X : Type 0} (tag : ℕ) (content : X → List ℕ) (xs : List X) (index : ℕ) (x : X) → slice_get xs index ≡ Some x
    → length (elements tag content xs) < 65536 → length (content x) ≤ 65535
small_at tag content [] index x at l = cc
small_at tag content (y ∷ ys) zero x at l =
    let both = length-append (element_text tag (content y)) (elements tag content ys) in
    omega (arith, l, both, longer tag (content y), ap (λ x. length (content x)) (same_one y x at))
small_at tag content (y ∷ ys) (suc index) x at l =
    let both = length-append (element_text tag (content y)) (elements tag content ys) in
    small_at tag content ys index x at (omega (arith, l, both))

-- ---- one step of a loop

pub next_at : {X : Type 0} (xs : List X) (index : ℕ) (x : X) → slice_get xs index ≡ Some x → drop index xs ≡ x ∷ drop (index + 1) xs
next_at [] index x at = cc
next_at (y ∷ ys) zero x at = ap (λ y. y ∷ ys) (same_one y x at)
next_at (y ∷ ys) (suc index) x at = let next : suc index + 1 ≡ suc (index + 1) = omega arith in rw next (next_at ys index x at)

pub all_next : {X : Type 0} (p : X → Bool) (xs : List X) (index : ℕ) (x : X) → slice_get xs index ≡ Some x → p x ≡ true
    → list_all p (drop index xs) ≡ list_all p (drop (index + 1) xs)
all_next p xs index x at one = ap (list_all p) (next_at xs index x at) ∙ rw one refl

pub any_next : {X : Type 0} (p : X → Bool) (xs : List X) (index : ℕ) (x : X) → slice_get xs index ≡ Some x → p x ≡ false
    → list_any p (drop index xs) ≡ list_any p (drop (index + 1) xs)
any_next p xs index x at none = ap (list_any p) (next_at xs index x at) ∙ rw none refl

pub elements_next : {X : Type 0} (tag : ℕ) (content : X → List ℕ) (out : List ℕ) (xs : List X) (index : ℕ) (x : X) (all : List ℕ) → slice_get xs index ≡ Some x
    → out ++ elements tag content (drop index xs) ≡ all → (out ++ element_text tag (content x)) ++ elements tag content (drop (index + 1) xs) ≡ all
elements_next tag content out xs index x all at same =
    append_assoc out (element_text tag (content x)) (elements tag content (drop (index + 1) xs))
    ∙ ap (λ r. out ++ r) (sym (ap (elements tag content) (next_at xs index x at))) ∙ same
