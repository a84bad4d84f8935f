-- One turn of the loop over the parameters.
use Rattle.std.proofs.Common.{◌≡◌, ℕ, zero, suc, ◌≤◌, ◌<◌, List, [], ◌∷◌, length, Ok, Err, refl, arith}
use Rattle.text_grammar.specs.Reading.{Read}
use Rattle.lists.specs.Steps.{◌>>=◌}
use Rattle.identity_header.specs.Parts.{Parts}
use Rattle.identity_header.specs.Reading.{param_at, params_up_to, params_at}
use Rattle.identity_header.proofs.Shorter.{param-shorter}

-- A bound past the length changes nothing.
pub same_bound : (n m : ℕ) (s : Parts) (t : List ℕ) → length t ≤ n → length t ≤ m → params_up_to n s t ≡ params_up_to m s t
same_bound n m s [] h k = refl
same_bound zero m s (b ∷ t) h k = absurd (omega arith)
same_bound (suc n) zero s (b ∷ t) h k = absurd (omega arith)
same_bound (suc n) (suc m) s (b ∷ t) h k = step (λ x lt. same_bound n m x.0 x.1 (omega arith) (omega arith)) (param_at s (b ∷ t)) refl
  where
    step : ((x : Parts × List ℕ) → length x.1 < suc (length t) → params_up_to n x.0 x.1 ≡ params_up_to m x.0 x.1)
        → (r : Read (Parts × List ℕ)) → param_at s (b ∷ t) ≡ r → (r >>= (λ x. params_up_to n x.0 x.1)) ≡ (r >>= (λ x. params_up_to m x.0 x.1))
    step same (Ok x) e = same x (param-shorter s (b ∷ t) x e)
    step same (Err left) e = refl

pub one_turn : (s : Parts) (text : List ℕ) → 1 ≤ length text → params_at s text ≡ (param_at s text >>= (λ x. params_at x.0 x.1))
unfolding params_at
one_turn s [] h = absurd (omega arith)
one_turn s (b ∷ t) h = step (param_at s (b ∷ t)) refl
  where
    step : (r : Read (Parts × List ℕ)) → param_at s (b ∷ t) ≡ r
        → (r >>= (λ x. params_up_to (length t) x.0 x.1)) ≡ (r >>= (λ x. params_up_to (length x.1) x.0 x.1))
    step (Ok x) e = let lt : length x.1 < length (b ∷ t) = param-shorter s (b ∷ t) x e in same_bound (length t) (length x.1) x.0 x.1 (omega arith) (omega arith)
    step (Err left) e = refl

-- the same, if the turn is known
pub turn_ok : (s : Parts) (text : List ℕ) (x : Parts × List ℕ) → 1 ≤ length text → param_at s text ≡ Ok x → params_at s text ≡ params_at x.0 x.1
turn_ok s text x h e = rw (one_turn s text h, e) refl

pub turn_err : (s : Parts) (text left : List ℕ) → 1 ≤ length text → param_at s text ≡ Err left → params_at s text ≡ Err left
turn_err s text left h e = rw (one_turn s text h, e) refl

pub turn_end : (s : Parts) → params_at s [] ≡ Ok s
unfolding params_at
turn_end s = refl

pub turn_last : (s : Parts) (text : List ℕ) → length text ≡ 0 → params_at s text ≡ Ok s
turn_last s [] h = turn_end s
turn_last s (b ∷ t) h = absurd (omega arith)
