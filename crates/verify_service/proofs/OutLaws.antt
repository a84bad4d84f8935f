-- What is at an index: of calls, of answers, and of one more.
use Rattle.std.proofs.Common.{◌≡◌, ◌≢◌, ℕ, zero, suc, ◌+◌, ◌<◌, ◌%◌, ◌==◌, ◌⊎◌, inl, inr, true, false, List, [], ◌∷◌, get_or, set, length, Some, sym, ap, arith, get_or-set_same, get_or-set_other, eq-or-lt_of_le, le_of_suc-le-suc}
use Rattle.std.proofs.lemmas.Bool.Decides.{nat_tests}
use Rattle.std.specs.List.{slice_get}
use Rattle.verify_service.specs.Carrying.{out_at}
use Rattle.verify_service.specs.declared.outcome.Outcome.{Outcome}
use Rattle.verify_service.specs.declared.outcome.Outcome.TheVariants as outcomes

pub same_elsewhere : (outs : List Outcome) (upto at : ℕ) (outcome : Outcome) → at ≢ upto → out_at (set outs upto outcome) at ≡ out_at outs at
same_elsewhere outs upto at outcome apart = get_or-set_other outs upto at outcome outcomes.Valid apart

pub same_here : (outs : List Outcome) (upto : ℕ) (outcome : Outcome) → upto < length outs → out_at (set outs upto outcome) upto ≡ outcome
same_here outs upto outcome within = get_or-set_same outs upto outcome outcomes.Valid within

-- ---- below one more

below_by : (at upto : ℕ) → (at ≡ upto) ⊎ (at < upto) → (at < upto) ⊎ (at ≡ upto)
below_by at upto (inl same) = inr same
below_by at upto (inr less) = inl less

pub below_more : (at upto : ℕ) → at < suc upto → (at < upto) ⊎ (at ≡ upto)
below_more at upto below = below_by at upto (eq-or-lt_of_le (le_of_suc-le-suc below))

pub next : (n : ℕ) → suc n ≡ n + 1
next n = omega arith

-- ---- a worker's own

pub other_test : (count worker upto : ℕ) → upto % count ≢ worker → (upto % count == worker) ≡ false
other_test count worker upto apart = grind (arith, nat_tests)

pub own_test : (count worker upto : ℕ) → upto % count ≡ worker → (upto % count == worker) ≡ true
own_test count worker upto same = grind (arith, nat_tests)

pub is_own : (count worker upto : ℕ) → (upto % count == worker) ≡ true → upto % count ≡ worker
is_own count worker upto is = grind (arith, nat_tests)

-- ---- what is there

pub in_bounds : {X : Type 0} → (xs : List X) (i : ℕ) (x : X) → slice_get xs i ≡ Some x → i < length xs
in_bounds [] i x is = absurd cc
in_bounds (y ∷ ys) zero x is = omega arith
in_bounds (y ∷ ys) (suc i) x is = let less = in_bounds ys i x is in omega arith

pub get_stands : {X : Type 0} → (xs : List X) (i : ℕ) (x d : X) → i < length xs → x ≡ get_or xs i d → slice_get xs i ≡ Some x
get_stands [] i x d within is = absurd (omega arith)
get_stands (y ∷ ys) zero x d within is = ap (λ z. Some z) (sym is)
get_stands (y ∷ ys) (suc i) x d within is = get_stands ys i x d (omega arith) is
