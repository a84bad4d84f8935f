-- How the counts of shelf and provider add up over the chains of a call, over calls, and over a round.
use Rattle.std.proofs.Common.{◌≡◌, ℕ, ◌+◌, ◌≤◌, Bool, true, false, cond, List, [], ◌∷◌, ◌++◌, length, filter, zero-add, refl, sym, ◌∙◌, subst, arith}
use Rattle.std.specs.List.{list_any}
use Rattle.stir_outside.specs.Count.{AtMost}
use Rattle.stir_outside.proofs.CountLaws.{at_most_of_rose, both_at_most, none_at}
use Rattle.call_judging.proofs.CauseLaws.{cause_more}
use Rattle.call_judging.specs.Causes.{HasCauseIf}
use Rattle.verify_service.specs.Causes.{AreCounted}

-- ---- counted

counted_by : {A : Type 0} → (t : Bool) (a : A) (xs ys : List A) (n : ℕ) → length xs ≡ length ys + n → length (cond t (a ∷ xs) xs) ≡ length (cond t (a ∷ ys) ys) + n
counted_by true a xs ys n same = omega arith
counted_by false a xs ys n same = same

counted_one : {A : Type 0} → (t : Bool) (x : A) → length (cond t (x ∷ []) []) ≡ cond t 1 0
counted_one true x = refl
counted_one false x = refl

pub filter_more : {A : Type 0} → (p : A → Bool) (xs : List A) (x : A) → length (filter p (xs ++ x ∷ [])) ≡ length (filter p xs) + cond (p x) 1 0
filter_more p [] x = counted_one (p x) x ∙ sym (zero-add (cond (p x) 1 0))
filter_more p (a ∷ xs) x = counted_by (p a) a (filter p (xs ++ x ∷ [])) (filter p xs) (cond (p x) 1 0) (filter_more p xs x)

at_most_more : (t : Bool) (n before mid now : ℕ) → AtMost n before mid → mid ≤ now → HasCauseIf t mid now → AtMost (n + cond t 1 0) before now
at_most_more true n before mid now so_far further cause = both_at_most n 1 before mid now so_far (at_most_of_rose mid now (cause refl))
at_most_more false n before mid now so_far further cause = both_at_most n 0 before mid now so_far (none_at mid now further)

-- one more that may be set aside
pub counted_more : {X : Type 0} (p : X → Bool) (xs : List X) (x : X) (before mid now : ℕ) → before ≤ mid → mid ≤ now
    → AreCounted p xs before mid → HasCauseIf (p x) mid now → AreCounted p (xs ++ x ∷ []) before now
counted_more p xs x before mid now stayed further so_far cause = record {
  most = subst (λ n. AtMost n before now) (sym (filter_more p xs x)) (at_most_more (p x) (length (filter p xs)) before mid now so_far.most further cause);
  cause = cause_more p xs x before mid now stayed further so_far.cause cause;
}

-- the same of as many others
pub counted_as : {X Y : Type 0} (p : X → Bool) (q : Y → Bool) (xs : List X) (ys : List Y) (before now : ℕ) → length (filter q ys) ≡ length (filter p xs) → list_any q ys ≡ list_any p xs
    → AreCounted p xs before now → AreCounted q ys before now
counted_as p q xs ys before now same any counted = record {
  most = subst (λ n. AtMost n before now) (sym same) counted.most;
  cause = subst (λ b. HasCauseIf b before now) (sym any) counted.cause;
}
