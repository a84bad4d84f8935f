-- With which byte a text of a piece begins.
use Rattle.std.proofs.Common.{◌≡◌, ℕ, ◌≤◌, Bool, true, false, eqb, ◌⊎◌, inl, inr, List, [], ◌∷◌, ◌++◌, sym, ◌∙◌, ap, subst, arith}
use Rattle.std.specs.List.{list_all}
use Rattle.std.proofs.lemmas.Bool.{and_parts, or_cases, eqb-true, false_from_ne_true, both_ways}
use Rattle.text_grammar.specs.Bytes.{is_blank}
use Rattle.text_grammar.specs.Grammar.{Taking, ◌▹◌, Byte, Blanks, Many}

pub byte_head : (c x : ℕ) (N : List ℕ → Type 0) (u : List ℕ) → (Byte c ▹ N) (x ∷ u) → x ≡ c
byte_head c x N u m = let e : x ∷ u ≡ (c ∷ []) ++ m.rest = m.split ∙ ap (λ (a : List ℕ). a ++ m.rest) m.is_piece in cc

pub byte_none : (c : ℕ) (N : List ℕ → Type 0) → (Byte c ▹ N) [] → ⊥
byte_none c N m = let e : [] ≡ (c ∷ []) ++ m.rest = m.split ∙ ap (λ (a : List ℕ). a ++ m.rest) m.is_piece in absurd (cc)

pub blanks_head : (c x : ℕ) (N : List ℕ → Type 0) (u : List ℕ) → (Blanks ▹ (Byte c ▹ N)) (x ∷ u) → (is_blank x ≡ true) ⊎ (x ≡ c)
blanks_head c x N u m = by_piece m.piece m.is_piece m.split
  where
    by_piece : (a : List ℕ) → list_all is_blank a ≡ true → x ∷ u ≡ a ++ m.rest → (is_blank x ≡ true) ⊎ (x ≡ c)
    by_piece [] h e = inr (byte_head c x N u (subst (Byte c ▹ N) (sym e) m.goes_on))
    by_piece (y ∷ a) h e = let same : x ≡ y = cc in inl (ap is_blank same ∙ (and_parts (is_blank y) (list_all is_blank a) h).0)

pub blanks_none : (c : ℕ) (N : List ℕ → Type 0) → (Blanks ▹ (Byte c ▹ N)) [] → ⊥
blanks_none c N m = by_piece m.piece m.split
  where
    by_piece : (a : List ℕ) → [] ≡ a ++ m.rest → ⊥
    by_piece [] e = byte_none c N (subst (Byte c ▹ N) (sym e) m.goes_on)
    by_piece (y ∷ a) e = absurd (cc)

pub many_head : (p : ℕ → Bool) (x : ℕ) (N : List ℕ → List ℕ → Type 0) (u : List ℕ) → Taking (Many p) N (x ∷ u) → p x ≡ true
many_head p x N u m = by_piece m.piece m.is_piece m.split
  where
    by_piece : (a : List ℕ) → Many p a → x ∷ u ≡ a ++ m.rest → p x ≡ true
    by_piece [] h e = let one : 1 ≤ 0 = h.some in absurd (omega arith)
    by_piece (y ∷ a) h e = let same : x ≡ y = cc in ap p same ∙ (and_parts (p y) (list_all p a) h.each).0

-- A class that has neither blank has no blank.
pub no_blank : (p : ℕ → Bool) (x : ℕ) → p 32 ≡ false → p 9 ≡ false → p x ≡ true → is_blank x ≡ false
no_blank p x h k e = false_from_ne_true (is_blank x) (λ b. elim (or_cases (eqb x 32) (eqb x 9) b) [
  | inl q ↦ both_ways (p x) (ap p (eqb-true x 32 q) ∙ h) e
  | inr q ↦ both_ways (p x) (ap p (eqb-true x 9 q) ∙ k) e
])

-- A byte that is blank or this one isn't of a class that has none of them.
pub not_of : (p : ℕ → Bool) (c x : ℕ) → p 32 ≡ false → p 9 ≡ false → p c ≡ false → (is_blank x ≡ true) ⊎ (x ≡ c) → p x ≡ false
not_of p c x h k l e = elim e [
  | inl b ↦ elim (or_cases (eqb x 32) (eqb x 9) b) [ inl q ↦ ap p (eqb-true x 32 q) ∙ h | inr q ↦ ap p (eqb-true x 9 q) ∙ k ]
  | inr q ↦ ap p q ∙ l
]
