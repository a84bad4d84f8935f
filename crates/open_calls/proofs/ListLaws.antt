-- Laws of a list that is seen through two functions.
use Rattle.std.proofs.Common.{◌≡◌, ℕ, zero, suc, ◌<◌, Some, List, [], ◌∷◌, length, map, get_or, ap, sym, ◌∙◌, arith}
use Rattle.std.specs.List.{slice_get}

-- the element that is read at an index, as they see it
pub seen_at : {X Y Z : Type 0} → (f : X → Y) (g : Y → Z) (xs : List X) (i : ℕ) (x : X) (z : Z) → i < length xs → x ≡ get_or xs i x → z ≡ g (f x) → slice_get (map g (map f xs)) i ≡ Some z
seen_at f g [] i x z within is so = absurd (omega arith)
seen_at f g (y ∷ ys) zero x z within is so = ap (λ v. Some (g (f v))) (sym is) ∙ ap (λ v. Some v) (sym so)
seen_at f g (y ∷ ys) (suc i) x z within is so = seen_at f g ys i x z (omega arith) is so
