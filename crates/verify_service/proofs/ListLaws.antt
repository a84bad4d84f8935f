-- Laws of lists: one element more, and what holds of two lists pair by pair.
use Rattle.std.proofs.Common.{◌≡◌, ℕ, zero, suc, ◌+◌, ◌<◌, Some, List, [], ◌∷◌, ◌++◌, length, map, take, get_or, ap, sym, ◌∙◌, refl}
use Rattle.std.specs.List.{slice_get}
use Rattle.std.proofs.lemmas.Option.{same_Some}
use Rattle.std.proofs.lemmas.List.{take_more}
use Rattle.verify_service.specs.Judging.{EachPair}

-- ---- one element more

pub take_item : {X : Type 0} → (xs : List X) (i : ℕ) (x d : X) → i < length xs → x ≡ get_or xs i d → take (i + 1) xs ≡ take i xs ++ x ∷ []
take_item xs i x d within is = take_more xs i d within ∙ ap (λ y. take i xs ++ y ∷ []) (sym is)

pub map_at : {X Y : Type 0} → (f : X → Y) (xs : List X) (i : ℕ) (x : X) (y : Y) → slice_get xs i ≡ Some x → slice_get (map f xs) i ≡ Some y → y ≡ f x
map_at f [] i x y is at = absurd cc
map_at f (z ∷ zs) zero x y is at = same_Some y (f x) (sym at ∙ ap (λ o. Some (f o)) (same_Some z x is))
map_at f (z ∷ zs) (suc i) x y is at = map_at f zs i x y is at

-- ---- pair by pair

pub each_more : {A B : Type 0} → (R : A → B → Type 0) (xs : List A) (ys : List B) (x : A) (y : B) → EachPair R xs ys → R x y → EachPair R (xs ++ x ∷ []) (ys ++ y ∷ [])
each_more R [] [] x y each here = (here, tt)
each_more R [] (b ∷ ys) x y each here = absurd each
each_more R (a ∷ xs) [] x y each here = absurd each
each_more R (a ∷ xs) (b ∷ ys) x y each here = (each.0, each_more R xs ys x y each.1 here)

pub each_length : {A B : Type 0} → (R : A → B → Type 0) (xs : List A) (ys : List B) → EachPair R xs ys → length ys ≡ length xs
each_length R [] [] each = refl
each_length R [] (b ∷ ys) each = absurd each
each_length R (a ∷ xs) [] each = absurd each
each_length R (a ∷ xs) (b ∷ ys) each = ap suc (each_length R xs ys each.1)
