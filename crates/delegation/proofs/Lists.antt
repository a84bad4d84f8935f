-- What holds of some entry of a list, by its place and at the ends of lists.
use Rattle.std.proofs.Common.{◌≡◌, ℕ, zero, suc, ◌<◌, ◌⊎◌, inl, inr, List, [], ◌∷◌, ◌++◌, length, Any, arith, sym, subst}
use Rattle.std.proofs.lemmas.List.Elements.{Contains-append_left, Contains-append_right, Contains-append_cases, Contains-push_cases}
use Rattle.std.specs.List.{slice_index_or}
use Rattle.tn_auth_list.specs.CodeTable.{SomeOf}

-- ---- by place

pub some_at : {X : Type 0} (P : X → Type 0) (xs : List X) (i : ℕ) (x : X) → i < length xs → x ≡ slice_index_or xs i x → P x → SomeOf P xs
some_at P [] i x inside at p = absurd (omega (arith, inside))
some_at P (y ∷ xs) zero x inside at p = inl (subst P at p)
some_at P (y ∷ xs) (suc i) x inside at p = inr (some_at P xs i x (omega (arith, inside)) at p)

-- ---- two lists, one after the other

pub any_left : {X : Type 0} (P : X → Type 0) (xs ys : List X) → Any P xs → Any P (xs ++ ys)
any_left P xs ys (k, x, inside, is, p) = let c = Contains-append_left xs ys x (k, inside, is) in (c.0, x, c.1, c.2, p)

pub any_right : {X : Type 0} (P : X → Type 0) (xs ys : List X) → Any P ys → Any P (xs ++ ys)
any_right P xs ys (k, x, inside, is, p) = let c = Contains-append_right xs ys x (k, inside, is) in (c.0, x, c.1, c.2, p)

pub any_cases : {X : Type 0} (P : X → Type 0) (xs ys : List X) → Any P (xs ++ ys) → Any P xs ⊎ Any P ys
any_cases P xs ys (k, x, inside, is, p) =
    elim (Contains-append_cases xs ys x (k, inside, is)) [ inl c ↦ inl (c.0, x, c.1, c.2, p) | inr c ↦ inr (c.0, x, c.1, c.2, p) ]

pub any_push_cases : {X : Type 0} (P : X → Type 0) (xs : List X) (y : X) → Any P (xs ++ y ∷ []) → Any P xs ⊎ P y
any_push_cases P xs y (k, x, inside, is, p) =
    elim (Contains-push_cases xs y x (k, inside, is)) [ inl c ↦ inl (c.0, x, c.1, c.2, p) | inr same ↦ inr (subst P (sym same) p) ]
