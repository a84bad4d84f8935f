-- How causes add up over the chains of a call, and over calls.
use Rattle.std.proofs.Common.{◌≡◌, ℕ, ◌≤◌, ◌||◌, Bool, true, false, List, [], ◌∷◌, ◌++◌, refl, ap, sym, ◌∙◌, subst}
use Rattle.std.specs.List.{list_any}
use Rattle.std.proofs.Math.Bool.{or-false}
use Rattle.std.proofs.lemmas.List.Folds.{list_any-append}
use Rattle.stir_outside.proofs.CountLaws.{rose_then, then_rose}
use Rattle.call_judging.specs.Causes.{HasCauseIf}

pub cause_then : (set_aside : Bool) (before mid now : ℕ) → before ≤ mid → HasCauseIf set_aside before mid → mid ≤ now → HasCauseIf set_aside before now
cause_then set_aside before mid now stayed cause further = λ is. rose_then before mid now stayed (cause is) further

pub then_cause : (set_aside : Bool) (before mid now : ℕ) → before ≤ mid → HasCauseIf set_aside mid now → HasCauseIf set_aside before now
then_cause set_aside before mid now stayed cause = λ is. then_rose before mid now stayed (cause is)

either_cause : (one other : Bool) (before mid now : ℕ) → before ≤ mid → mid ≤ now → HasCauseIf one before mid → HasCauseIf other mid now → HasCauseIf (one || other) before now
either_cause true other before mid now stayed further first second = λ is. rose_then before mid now stayed (first refl) further
either_cause false other before mid now stayed further first second = λ is. then_rose before mid now stayed (second is)

pub any_more : {A : Type 0} → (p : A → Bool) (xs : List A) (x : A) → list_any p (xs ++ x ∷ []) ≡ (list_any p xs || p x)
any_more p xs x = list_any-append p xs (x ∷ []) ∙ ap (λ b. list_any p xs || b) (or-false (p x))

-- one more of those that may have a cause
pub cause_more : {A : Type 0} → (p : A → Bool) (xs : List A) (x : A) (before mid now : ℕ) → before ≤ mid → mid ≤ now
    → HasCauseIf (list_any p xs) before mid → HasCauseIf (p x) mid now → HasCauseIf (list_any p (xs ++ x ∷ [])) before now
cause_more p xs x before mid now stayed further first second =
    subst (λ b. HasCauseIf b before now) (sym (any_more p xs x)) (either_cause (list_any p xs) (p x) before mid now stayed further first second)
