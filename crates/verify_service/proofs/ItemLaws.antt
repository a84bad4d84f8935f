-- An item of a list that was replaced, and the items that stay.
use Rattle.std.proofs.Common.{◌≡◌, ◌≢◌, ℕ, zero, suc, ◌<◌, ◌==◌, Bool, true, false, List, [], ◌∷◌, get_or, set, length, refl, sym, ap, subst, arith, get_or-set_same, get_or-set_other}
use Rattle.std.proofs.lemmas.Bool.Decides.{nat_tests}

pub set_many : {W : Type 0} → (ws : List W) (w : ℕ) (x : W) → length (set ws w x) ≡ length ws
set_many [] w x = refl
set_many (v ∷ ws) zero x = refl
set_many (v ∷ ws) (suc w) x = ap suc (set_many ws w x)

pub same_item : {W : Type 0} → (ws : List W) (w : ℕ) (a b : W) → w < length ws → get_or ws w a ≡ get_or ws w b
same_item [] w a b within = absurd (omega arith)
same_item (v ∷ ws) zero a b within = refl
same_item (v ∷ ws) (suc w) a b within = same_item ws w a b (omega arith)

-- what is said of each item is said of it if one is replaced of which it is said
pub each_item : {W : Type 0} → (P : ℕ → W → Type 0) (ws : List W) (w : ℕ) (x d : W) → w < length ws → P w x → ((k : ℕ) → k < length ws → P k (get_or ws k d)) → (k : ℕ) → k < length ws
    → P k (get_or (set ws w x) k d)
each_item P ws w x d within here there k less = by (k == w) refl
  where
    by : (t : Bool) → (k == w) ≡ t → P k (get_or (set ws w x) k d)
    by true is =
        let same : k ≡ w = grind (arith, nat_tests) in
        subst (λ n. P n (get_or (set ws w x) n d)) (sym same) (subst (P w) (sym (get_or-set_same ws w x d within)) here)
    by false is =
        let apart : k ≢ w = grind (arith, nat_tests) in
        subst (P k) (sym (get_or-set_other ws w k x d apart)) (there k less)
