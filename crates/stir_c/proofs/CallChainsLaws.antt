-- Laws of the chains that were handed in for a call.
use Rattle.std.proofs.Common.{◌≡◌, ℕ, zero, suc, ◌+◌, ◌<◌, ◌≤◌, List, [], ◌∷◌, ◌++◌, length, map, drop, get_or, append_assoc, append-nil, replicate, Option, None, refl, sym, ◌∙◌, ap, subst, arith}
use Rattle.std.specs.Option.{option_map}
use Rattle.std.specs.Prelude.{slice_set}
use Rattle.std.proofs.lemmas.List.{drop_all, length-map, map-set}

-- ---- none was handed in

-- seen through a function, nothings are nothings
pub none_seen : {X Y : Type 0} (f : X → Y) (n : ℕ) → map (option_map f) (replicate n None) ≡ replicate n None
none_seen f zero = refl
none_seen f (suc n) = ap (λ ys. None ∷ ys) (none_seen f n)

pub none_given : {X Y : Type 0} (f : X → Y) (items : List (Option X)) (count : ℕ) → items ≡ replicate count None → map (option_map f) items ≡ replicate count None
none_given f items count so = ap (map (option_map f)) so ∙ none_seen f count

pub all_nothings : {X : Type 0} (items : List X) (x : X) (n count : ℕ) → (n ≤ count) × (items ≡ replicate n x) → count ≤ n → items ≡ replicate count x
all_nothings items x n count so past = let low = so.0 in let is : n ≡ count = omega (arith, low, past) in so.1 ∙ ap (λ (m : ℕ). replicate m x) is

-- ---- one is put in its place

pub one_put : {X Y : Type 0} (f : X → Y) (xs : List X) (index : ℕ) (x : X) → map f (slice_set xs index x) ≡ slice_set (map f xs) index (f x)
one_put f xs index x = map-set f xs index x

-- ---- all are opened

step : {X Y : Type 0} (f : X → Y) (xs : List X) (i : ℕ) (d : X) → i < length xs → drop i (map f xs) ≡ f (get_or xs i d) ∷ drop (suc i) (map f xs)
step f [] i d within = absurd (omega arith)
step f (x ∷ xs) zero d within = refl
step f (x ∷ xs) (suc i) d within = step f xs i d (omega arith)

pub one_open : {X Y : Type 0} (f : X → Y) (xs : List X) (i : ℕ) (x d : X) (mid now all : List Y) → mid ++ drop i (map f xs) ≡ all → i < length xs → x ≡ get_or xs i d
    → now ≡ mid ++ f x ∷ [] → now ++ drop (i + 1) (map f xs) ≡ all
one_open f xs i x d mid now all left within is pushed =
    let next : suc i ≡ i + 1 = omega arith in
    let rest = drop (i + 1) (map f xs) in
    let split : drop i (map f xs) ≡ f (get_or xs i d) ∷ rest = step f xs i d within ∙ ap (λ n. f (get_or xs i d) ∷ drop n (map f xs)) next in
    ap (λ ys. ys ++ rest) pushed ∙ append_assoc mid (f x ∷ []) rest ∙ ap (λ y. mid ++ f y ∷ rest) is ∙ ap (λ ys. mid ++ ys) (sym split) ∙ left

pub all_open : {X Y : Type 0} (f : X → Y) (xs : List X) (i : ℕ) (now all : List Y) → now ++ drop i (map f xs) ≡ all → length xs ≤ i → now ≡ all
all_open f xs i now all left past =
    sym (append-nil now) ∙ ap (λ ys. now ++ ys) (sym (drop_all i (map f xs) (subst (λ n. n ≤ i) (sym (length-map xs f)) past))) ∙ left
