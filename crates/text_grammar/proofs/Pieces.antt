-- The laws of the pieces that are one byte, a word, a choice by the first byte, or the end.
use Rattle.std.proofs.Common.{◌≡◌, ℕ, suc, ◌≤◌, Bool, true, false, ◌⊎◌, inl, inr, List, [], ◌∷◌, ◌++◌, length, map, Ok, Err, refl, sym, ◌∙◌, ap, subst, append_assoc, arith}
use Rattle.std.specs.Prelude.{◌==◌}
use Rattle.std.proofs.lemmas.Bool.{cases_Bool, eqb-true, eq-eqb}
use Rattle.std.proofs.lemmas.List.{map-append}
use Rattle.text_grammar.specs.Bytes.{lower}
use Rattle.text_grammar.specs.Grammar.{◌▹◌, Byte, Word, End}
use Rattle.text_grammar.specs.Place.{Begins}
use Rattle.text_grammar.specs.Reading.{Read, one_at, byte_at, letter_at, word_at, end_at, either_at}
use Rattle.lists.specs.Steps.{◌>>=◌}
use Rattle.text_grammar.proofs.Laws.{Stops, Law, stops_after, stops_here, law_less, law_reads, law_same}

-- a piece of one byte of a class
pub record IsOne (p : ℕ → Bool) (A : List ℕ → Type 0) : Type 0 where
  pub sample : ℕ
  pub passes : p sample ≡ true
  pub make : (x : ℕ) → p x ≡ true → A (x ∷ [])
  pub only : (a : List ℕ) → A a → (x : ℕ) × (a ≡ x ∷ []) × (p x ≡ true)

-- a text whose piece is one byte
one_split : (p : ℕ → Bool) (A : List ℕ → Type 0) (N : List ℕ → Type 0) (o : IsOne p A) (text : List ℕ) → (A ▹ N) text
    → (x : ℕ) × (t : List ℕ) × (text ≡ x ∷ t) × (p x ≡ true) × N t
one_split p A N o text m =
    let w : (x : ℕ) × (m.piece ≡ x ∷ []) × (p x ≡ true) = o.only m.piece m.is_piece in
    let e : m.piece ≡ w.0 ∷ [] = w.1 in
    (w.0, m.rest, m.split ∙ ap (λ a. a ++ m.rest) e, w.2, m.goes_on)

one_make : (p : ℕ → Bool) (A : List ℕ → Type 0) (N : List ℕ → Type 0) (o : IsOne p A) (x : ℕ) (t : List ℕ) → p x ≡ true → N t
    → (A ▹ N) (x ∷ t)
one_make p A N o x t k h = record { piece = x ∷ []; rest = t; split = refl; is_piece = o.make x k; goes_on = h }

one_begins : (F : Type 0) (p : ℕ → Bool) (A : List ℕ → Type 0) (N : F → List ℕ → Type 0) (o : IsOne p A) → Begins F N []
    → Begins F (λ f. A ▹ N f) []
one_begins F p A N o b = record { value = b.value; more = o.sample ∷ b.more; text = one_make p A (N b.value) o o.sample b.more o.passes b.text }

pub law_one : (F : Type 0) (n : ℕ) (p : ℕ → Bool) (A : List ℕ → Type 0) (r : List ℕ → Read F) (N : F → List ℕ → Type 0)
    → IsOne p A → Law F n r N → Law F (suc n) (λ t. one_at p t >>= r) (λ f. A ▹ N f)
law_one F n p A r N o l = record { found = found; again = again; stops = stops; some = one_begins F p A N o l.some }
  where
    found : (text : List ℕ) (f : F) → length text ≤ suc n → (one_at p text >>= r) ≡ Ok f → (A ▹ N f) text
    found [] f h e = absurd (cc)
    found (x ∷ t) f h e = elim (cases_Bool (p x)) [
      | inl k ↦ one_make p A (N f) o x t k (l.found t f (omega arith) (rw k at e))
      | inr k ↦ (let b : Err (x ∷ t) ≡ Ok f = rw k at e in absurd (cc))
    ]

    again : (text : List ℕ) (f : F) → length text ≤ suc n → (A ▹ N f) text → (one_at p text >>= r) ≡ Ok f
    again text f h m =
        let w : (x : ℕ) × (t : List ℕ) × (text ≡ x ∷ t) × (p x ≡ true) × N f t = one_split p A (N f) o text m in
        let e : text ≡ w.0 ∷ w.1 = w.2 in
        let len : length text ≡ suc (length w.1) = ap length e in
        let k : p w.0 ≡ true = w.3 in
        rw e (rw k (l.again w.1 f (omega arith) w.4))

    stops : (text left : List ℕ) → length text ≤ suc n → (one_at p text >>= r) ≡ Err left → Stops F (λ f. A ▹ N f) text left
    stops [] left h e =
        let same : [] ≡ left = cc in
        subst (λ (t : List ℕ). Stops F (λ f. A ▹ N f) [] t) same
        (stops_here F (λ f. A ▹ N f) [] (one_begins F p A N o l.some) (λ b rest q f more m. absurd (cc)))
    stops (x ∷ t) left h e = elim (cases_Bool (p x)) [
      | inl k ↦ stops_after F (λ f. A ▹ N f) N (x ∷ []) t left (λ f u g. one_make p A (N f) o x u k g)
          (λ f y u v q m. behind f x (y ∷ v) m)
          (l.stops t left (omega arith) (rw k at e))
      | inr k ↦
          (let b : Err (x ∷ t) ≡ Err left = rw k at e in
          let same : x ∷ t ≡ left = cc in
          subst (λ (u : List ℕ). Stops F (λ f. A ▹ N f) (x ∷ t) u) same
          (stops_here F (λ f. A ▹ N f) (x ∷ t) (one_begins F p A N o l.some)
          (λ b rest q f more m. let w = one_split p A (N f) o (b ∷ more) m in
          let one : b ≡ w.0 = cc in let two : x ≡ b = cc in let yes' : p w.0 ≡ true = w.3 in
          clash (p x) k (ap p (two ∙ one) ∙ yes'))))
    ]
      where
        behind : (f : F) (x : ℕ) (u : List ℕ) → (A ▹ N f) (x ∷ u) → N f u
        behind f x u m =
            let w = one_split p A (N f) o (x ∷ u) m in
            let same : w.1 ≡ u = cc in subst (N f) same w.4

        clash : (b : Bool) → b ≡ false → b ≡ true → ⊥
        clash b h k = cc

-- this one byte
pub is_one_byte : (c : ℕ) → IsOne (λ b. b == c) (Byte c)
is_one_byte c = record {
  sample = c;
  passes = eq-eqb c c refl;
  make = λ x k. let e : x ≡ c = eqb-true x c k in ap (λ (y : ℕ). y ∷ []) e;
  only = λ a h. (c, h, eq-eqb c c refl);
}

pub law_byte : (F : Type 0) (n c : ℕ) (r : List ℕ → Read F) (N : F → List ℕ → Type 0)
    → Law F n r N → Law F (suc n) (λ t. byte_at c t >>= r) (λ f. Byte c ▹ N f)
law_byte F n c r N l = law_one F n (λ b. b == c) (Byte c) r N (is_one_byte c) l

-- the same, with the bound of what comes after it
pub law_mark : (F : Type 0) (n c : ℕ) (r : List ℕ → Read F) (N : F → List ℕ → Type 0)
    → Law F n r N → Law F n (λ t. byte_at c t >>= r) (λ f. Byte c ▹ N f)
law_mark F n c r N l = law_less F n (suc n) _ _ (omega arith) (law_byte F n c r N l)

-- one letter, in either case
abbrev pub Letter : ℕ → List ℕ → Type 0
Letter c text = Word (c ∷ []) text

pub is_one_letter : (c : ℕ) → lower c ≡ c → IsOne (λ b. lower b == c) (Letter c)
is_one_letter c h = record {
  sample = c;
  passes = eq-eqb (lower c) c h;
  make = λ x k. let e : lower x ≡ c = eqb-true (lower x) c k in ap (λ (y : ℕ). y ∷ []) e;
  only = letter_only;
}
  where
    letter_only : (a : List ℕ) → Letter c a → (x : ℕ) × (a ≡ x ∷ []) × ((lower x == c) ≡ true)
    letter_only [] k = absurd (cc)
    letter_only (x ∷ []) k = (x, refl, eq-eqb (lower x) c (let e : lower x ≡ c = cc in e))
    letter_only (x ∷ y ∷ a) k = absurd (cc)

-- a word, letter by letter
pub law_word : (F : Type 0) (n : ℕ) (word : List ℕ) (r : List ℕ → Read F) (N : F → List ℕ → Type 0) → map lower word ≡ word
    → Law F n r N → Law F n (λ t. word_at word t >>= r) (λ f. Word word ▹ N f)
law_word F n [] r N h l =
    law_same F n r N (λ f. Word [] ▹ N f)
    (λ f t m. record { piece = []; rest = t; split = refl; is_piece = refl; goes_on = m })
    (λ f t m. let e : m.piece ≡ [] = nothing m.piece m.is_piece in
    let same : m.rest ≡ t = ap (λ (a : List ℕ). a ++ m.rest) (sym e) ∙ sym m.split in subst (N f) same m.goes_on) l
  where
    nothing : (a : List ℕ) → map lower a ≡ [] → a ≡ []
    nothing [] k = refl
    nothing (x ∷ a) k = absurd (cc)
law_word F n (c ∷ word) r N h l =
    let head : lower c ≡ c = cc in
    let tail : map lower word ≡ word = cc in
    law_reads F n (λ t. letter_at c t >>= (λ u. word_at word u >>= r)) (λ t. word_at (c ∷ word) t >>= r) (λ f. Word (c ∷ word) ▹ N f)
    (λ t k. again_bind c word r t)
    (law_same F n (λ t. letter_at c t >>= (λ u. word_at word u >>= r)) (λ f. Letter c ▹ (Word word ▹ N f)) (λ f. Word (c ∷ word) ▹ N f)
    (λ f t m. joined c word (N f) t m) (λ f t m. parted c word (N f) t m)
    (law_less F n (suc n) _ _ (omega arith)
    (law_one F n (λ b. lower b == c) (Letter c) (λ u. word_at word u >>= r) (λ f. Word word ▹ N f) (is_one_letter c head)
    (law_word F n word r N tail l))))
  where
    again_bind : (c : ℕ) (word : List ℕ) (r : List ℕ → Read F) (t : List ℕ)
        → (word_at (c ∷ word) t >>= r) ≡ (letter_at c t >>= (λ u. word_at word u >>= r))
    again_bind c word r [] = refl
    again_bind c word r (b ∷ t) = elim (cases_Bool (lower b == c)) [ inl k ↦ rw k refl | inr k ↦ rw k refl ]

    joined : (c : ℕ) (word : List ℕ) (N : List ℕ → Type 0) (t : List ℕ) → (Letter c ▹ (Word word ▹ N)) t → (Word (c ∷ word) ▹ N) t
    joined c word N t m = record {
      piece = m.piece ++ m.goes_on.piece;
      rest = m.goes_on.rest;
      split = m.split ∙ ap (λ (u : List ℕ). m.piece ++ u) m.goes_on.split ∙ sym (append_assoc m.piece m.goes_on.piece m.goes_on.rest);
      is_piece = map-append lower m.piece m.goes_on.piece ∙ (let a : map lower m.piece ≡ c ∷ [] = m.is_piece in
          let b : map lower m.goes_on.piece ≡ word = m.goes_on.is_piece in rw (a, b) refl);
      goes_on = m.goes_on.goes_on;
    }

    parted : (c : ℕ) (word : List ℕ) (N : List ℕ → Type 0) (t : List ℕ) → (Word (c ∷ word) ▹ N) t → (Letter c ▹ (Word word ▹ N)) t
    parted c word N t m = by_piece m.piece m.is_piece m.split
      where
        by_piece : (a : List ℕ) → map lower a ≡ c ∷ word → t ≡ a ++ m.rest → (Letter c ▹ (Word word ▹ N)) t
        by_piece [] k e = absurd (cc)
        by_piece (x ∷ a) k e = record {
          piece = x ∷ [];
          rest = a ++ m.rest;
          split = e;
          is_piece = (let h : lower x ≡ c = cc in ap (λ (y : ℕ). y ∷ []) h);
          goes_on = record { piece = a; rest = m.rest; split = refl; is_piece = (let h : map lower a ≡ word = cc in h); goes_on = m.goes_on };
        }

-- the end of the text
pub law_end : (F : Type 0) (n : ℕ) (x : F) → Law F n (end_at x) (End F x)
law_end F n x = record {
  found = λ t f h e. found t f e;
  again = λ t f h m. let e : t ≡ [] = m.empty in let s : x ≡ f = m.same in rw e (ap (λ (y : F). Ok y) s);
  stops = λ t left h e. stops t left e;
  some = begins;
}
  where
    begins : Begins F (End F x) []
    begins = record { value = x; more = []; text = record { empty = refl; same = refl } }

    found : (t : List ℕ) (f : F) → end_at x t ≡ Ok f → End F x f t
    found [] f e = record { empty = refl; same = let s : x ≡ f = cc in s }
    found (b ∷ t) f e = absurd (cc)

    stops : (t left : List ℕ) → end_at x t ≡ Err left → Stops F (End F x) t left
    stops [] left e = absurd (cc)
    stops (b ∷ t) left e =
        let same : b ∷ t ≡ left = cc in
        subst (λ (u : List ℕ). Stops F (End F x) (b ∷ t) u) same
        (stops_here F (End F x) (b ∷ t) begins (λ c rest q f more m. let z : c ∷ more ≡ [] = m.empty in absurd (cc)))

-- one grammar if the first byte is of this class, and else the other one
pub law_either : (F : Type 0) (n : ℕ) (p : ℕ → Bool) (r s : List ℕ → Read F) (M N : F → List ℕ → Type 0)
    → ((f : F) → M f [] → ⊥)
    → ((f : F) (x : ℕ) (u : List ℕ) → M f (x ∷ u) → p x ≡ true)
    → ((f : F) (x : ℕ) (u : List ℕ) → N f (x ∷ u) → p x ≡ false)
    → Law F n r M → Law F n s N → Law F n (either_at p r s) (λ f t. M f t ⊎ N f t)
law_either F n p r s M N none first other l k = record { found = found; again = again; stops = stops; some = begins [] k.some }
  where
    begins : (front : List ℕ) → Begins F N front → Begins F (λ f t. M f t ⊎ N f t) front
    begins front b = record { value = b.value; more = b.more; text = inr b.text }

    clash : (b : Bool) → b ≡ false → b ≡ true → ⊥
    clash b h e = cc

    found : (t : List ℕ) (f : F) → length t ≤ n → either_at p r s t ≡ Ok f → M f t ⊎ N f t
    found [] f h e = inr (k.found [] f h e)
    found (b ∷ t) f h e = elim (cases_Bool (p b)) [
      | inl q ↦ inl (l.found (b ∷ t) f h (rw q at e))
      | inr q ↦ inr (k.found (b ∷ t) f h (rw q at e))
    ]

    again : (t : List ℕ) (f : F) → length t ≤ n → M f t ⊎ N f t → either_at p r s t ≡ Ok f
    again [] f h m = elim m [ inl a ↦ absurd (none f a) | inr a ↦ k.again [] f h a ]
    again (b ∷ t) f h m = elim m [
      | inl a ↦ (let q : p b ≡ true = first f b t a in rw q (l.again (b ∷ t) f h a))
      | inr a ↦ (let q : p b ≡ false = other f b t a in rw q (k.again (b ∷ t) f h a))
    ]

    stops_other : (t left : List ℕ) → ((x : ℕ) (u : List ℕ) → t ≡ x ∷ u → p x ≡ false) → Stops F N t left
        → Stops F (λ f t. M f t ⊎ N f t) t left
    stops_other t left head s = stops_after F (λ f t. M f t ⊎ N f t) N [] t left (λ f u a. inr a)
        (λ f x u v e m. elim m [ inl a ↦ absurd (clash (p x) (head x u e) (first f x v a)) | inr a ↦ a ]) s

    stops : (t left : List ℕ) → length t ≤ n → either_at p r s t ≡ Err left → Stops F (λ f t. M f t ⊎ N f t) t left
    stops [] left h e = stops_other [] left (λ x u z. absurd (cc)) (k.stops [] left h e)
    stops (b ∷ t) left h e = elim (cases_Bool (p b)) [
      | inl q ↦ stops_after F (λ f t. M f t ⊎ N f t) M [] (b ∷ t) left (λ f u a. inl a)
          (λ f x u v z m. elim m [ inl a ↦ a | inr a ↦ absurd (clash (p x) (other f x v a) (let y : b ≡ x = cc in ap p (sym y) ∙ q)) ])
          (l.stops (b ∷ t) left h (rw q at e))
      | inr q ↦ stops_other (b ∷ t) left (λ x u z. let y : b ≡ x = cc in ap p (sym y) ∙ q) (k.stops (b ∷ t) left h (rw q at e))
    ]
