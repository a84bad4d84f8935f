-- Steps of a reading that gives something.
use Rattle.std.proofs.Common.{◌≡◌, Bool, true, false, cond, Result, Ok, Err, refl, ap, ◌∙◌}
use Rattle.lists.specs.Steps.{◌>>=◌}

-- an equation of two answers that are Ok is one of what they hold
pub inside : {X E : Type 0} (x y : X) → ◌≡◌ {A = Result X E} (Ok x) (Ok y) → x ≡ y
inside x y e = cc

-- a reading that gives something gave something at its first step
pub came : {A B E : Type 0} (r : Result A E) (f : A → Result B E) (b : B) → r >>= f ≡ Ok b
    → (a : A) × (r ≡ Ok a) × (f a ≡ Ok b)
came (Ok a) f b e = (a, refl, e)
came (Err fault) f b e = absurd cc

-- a step that gives something goes on with it
pub after : {A B E : Type 0} (r : Result A E) (a : A) (f : A → Result B E) (z : Result B E)
    → r ≡ Ok a → f a ≡ z → r >>= f ≡ z
after r a f z e k = ap (λ r. r >>= f) e ∙ k

-- an answer after a test
pub taken : {A E : Type 0} (t : Bool) (v w : A) (fault : E) → ◌≡◌ {A = Result A E} (cond t (Ok v) (Err fault)) (Ok w)
    → (t ≡ true) × (v ≡ w)
taken true v w fault e = (refl, cc)
taken false v w fault e = absurd cc
