-- Laws of a list that is seen through a function.
use Rattle.std.proofs.Common.{◌≡◌, ℕ, zero, suc, ◌<◌, Some, List, [], ◌∷◌, ◌++◌, length, map, get_or, ap, sym, arith}
use Rattle.std.specs.List.{slice_get}
use Rattle.std.proofs.lemmas.List.{length-map, map_push}

pub mapped_more : {X Y : Type 0} → (f : X → Y) (xs : List X) (x : X) → map f (xs ++ x ∷ []) ≡ map f xs ++ f x ∷ []
mapped_more f xs x = map_push f xs x

pub mapped_length : {X Y : Type 0} → (f : X → Y) (xs : List X) → length (map f xs) ≡ length xs
mapped_length f xs = length-map xs f

-- the element that is read at an index, as the function sees it
pub mapped_at : {X Y : Type 0} → (f : X → Y) (xs : List X) (i : ℕ) (x : X) → i < length xs → x ≡ get_or xs i x → slice_get (map f xs) i ≡ Some (f x)
mapped_at f [] i x within is = absurd (omega arith)
mapped_at f (y ∷ ys) zero x within is = ap (λ v. Some (f v)) (sym is)
mapped_at f (y ∷ ys) (suc i) x within is = mapped_at f ys i x (omega arith) is
