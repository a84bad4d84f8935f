-- Texts that own their bytes, as lists: one more, and each by its index.
use Rattle.std.proofs.Common.{◌≡◌, ℕ, zero, suc, ◌<◌, ◌≤◌, List, [], ◌∷◌, ◌++◌, map, length, drop, get_or, Vec, Some, refl, ap, ◌∙◌, arith}
use Rattle.std.specs.List.{slice_get}
use Rattle.claim_constraints.specs.Constraints.{PermitView, permit_of, permits_of, texts_of}

module _ {X Y : Type 0} (f : X → Y) where
  more : (xs : List X) (x : X) → map f (xs ++ x ∷ []) ≡ map f xs ++ f x ∷ []
  more [] x = refl
  more (y ∷ xs) x = ap (λ ys. f y ∷ ys) (more xs x)

  at_index : (xs : List X) (index : ℕ) (d : X) → index < length xs → slice_get (map f xs) index ≡ Some (f (get_or xs index d))
  at_index [] index d within = absurd (omega (arith, within))
  at_index (x ∷ xs) zero d within = refl
  at_index (x ∷ xs) (suc index) d within = at_index xs index d (omega (arith, within))

pub one_more : {A : Type 0} (texts : List (Vec ℕ A)) (text : Vec ℕ A) → texts_of (texts ++ text ∷ []) ≡ texts_of texts ++ text.items ∷ []
one_more texts text = more (λ text. text.items) texts text

pub text_at : {A : Type 0} (texts : List (Vec ℕ A)) (index : ℕ) (d : Vec ℕ A) → index < length texts → slice_get (texts_of texts) index ≡ Some (get_or texts index d).items
text_at texts index d within = at_index (λ text. text.items) texts index d within

abbrev one : {A B C : Type 0} → Vec ℕ A × Vec (Vec ℕ B) C → PermitView
one entry = record { claim = entry.0.items; values = texts_of entry.1.items }

pub permit_at : {A B C : Type 0} (permits : List (Vec ℕ A × Vec (Vec ℕ B) C)) (index : ℕ) (d : Vec ℕ A × Vec (Vec ℕ B) C) → index < length permits
    → slice_get (permits_of permits) index ≡ Some (one (get_or permits index d))
permit_at permits index d within = at_index one permits index d within

pub permit_more : {A B C : Type 0} (permits : List (Vec ℕ A × Vec (Vec ℕ B) C)) (entry : Vec ℕ A × Vec (Vec ℕ B) C)
    → permits_of (permits ++ entry ∷ []) ≡ permits_of permits ++ one entry ∷ []
permit_more permits entry = more one permits entry
