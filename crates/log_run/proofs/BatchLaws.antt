-- Batches after one another.
use Rattle.std.proofs.Common.{◌≡◌, ℕ, ◌≤◌, Bool, true, false, ◌&&◌, List, [], ◌∷◌, ◌++◌, refl, sym, ◌∙◌, ap, arith, append_assoc}
use Rattle.log_run.specs.Batch.{AllFull, Batch, IsCut, all_well, calls_in, texts_in}

pub calls_both : (xs ys : List Batch) → calls_in (xs ++ ys) ≡ calls_in xs ++ calls_in ys
calls_both [] ys = refl
calls_both (x ∷ xs) ys = ap (λ t. x.calls ++ t) (calls_both xs ys) ∙ sym (append_assoc x.calls (calls_in xs) (calls_in ys))

pub texts_both : (xs ys : List Batch) → texts_in (xs ++ ys) ≡ texts_in xs ++ texts_in ys
texts_both [] ys = refl
texts_both (x ∷ xs) ys = ap (λ t. x.answer.text ++ t) (texts_both xs ys) ∙ sym (append_assoc x.answer.text (texts_in xs) (texts_in ys))

-- one more before those that are well together
well_front : (t first second both : Bool) → both ≡ (first && second) → (t && both) ≡ ((t && first) && second)
well_front true first second both e = e
well_front false first second both e = refl

pub well_both : (xs ys : List Batch) → all_well (xs ++ ys) ≡ (all_well xs && all_well ys)
well_both [] ys = refl
well_both (x ∷ xs) ys = well_front x.answer.well (all_well xs) (all_well ys) (all_well (xs ++ ys)) (well_both xs ys)

pub and_true : (b : Bool) → b ≡ (b && true)
and_true true = refl
and_true false = refl

pub good_both : (a b c : Bool) (xs ys : List Batch) → b ≡ (a && all_well xs) → c ≡ (b && all_well ys) → c ≡ (a && all_well (xs ++ ys))
good_both a b c xs ys e f = f ∙ ap (λ t. t && all_well ys) e ∙ sym (well_front a (all_well xs) (all_well ys) (all_well (xs ++ ys)) (well_both xs ys))

pub full_both : (most : ℕ) (xs ys : List Batch) → AllFull most xs → AllFull most ys → AllFull most (xs ++ ys)
full_both most [] ys a b = b
full_both most (x ∷ xs) ys a b = (a.0, full_both most xs ys a.1 b)

pub full_cut : (most : ℕ) (xs ys : List Batch) → 1 ≤ most → AllFull most xs → IsCut most ys → IsCut most (xs ++ ys)
full_cut most [] ys some a c = c
full_cut most (x ∷ []) [] some a c = (omega (arith, a.0, some), omega (arith, a.0))
full_cut most (x ∷ []) (y ∷ ys) some a c = (a.0, c)
full_cut most (x ∷ z ∷ xs) ys some a c = (a.0, full_cut most (z ∷ xs) ys some a.1 c)
