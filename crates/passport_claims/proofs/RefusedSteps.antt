-- Each claim by itself: when it is refused, and what this says of header and payload.
use Rattle.std.proofs.Common.{◌≡◌, ◌⊎◌, inl, inr, Bool, true, false, Option, Some, None, Result, Ok, Err, refl, sym, ap}
use Rattle.lists.specs.Steps.{◌>>=◌}
use Rattle.passport_claims.specs.declared.fault.ClaimFault.{ClaimFault}
use Rattle.passport_claims.specs.Reading.{or_fault}

-- a reading that is refused is refused at its first step, or after what this gave
pub stops : {A B E : Type 0} (r : Result A E) (f : A → Result B E) (fault : E) → r >>= f ≡ Err fault
    → (r ≡ Err fault) ⊎ ((a : A) × (r ≡ Ok a) × (f a ≡ Err fault))
stops (Ok a) f fault e = inr (a, refl, e)
stops {A} {B} {E} (Err x) f fault e =
    let same : x ≡ fault = cc in
    inl (ap (λ (x : E). let r : Result A E = Err x in r) same)

-- what isn't there is the fault of its claim
pub nothing_there : {A : Type 0} (broken fault : ClaimFault) (found : Option A) → or_fault broken found ≡ Err fault → (found ≡ None) × (fault ≡ broken)
nothing_there broken fault None h = let same : broken ≡ fault = cc in (refl, sym same)
nothing_there broken fault (Some value) h = absurd cc

-- if nothing is read, nothing holds, provided that what holds is read
pub none_holds : {A : Type 0} (P : A → Type 0) (found : Option A) → found ≡ None → ((a : A) → P a → found ≡ Some a) → (a : A) → P a → ⊥
none_holds P found none again a holds = let some = again a holds in absurd cc

-- and if nothing holds, nothing is read, provided that what is read holds
pub none_read : {A : Type 0} (P : A → Type 0) (found : Option A) → ((a : A) → found ≡ Some a → P a) → ((a : A) → P a → ⊥) → found ≡ None
none_read P None found_is none = refl
none_read P (Some a) found_is none = absurd (none a (found_is a refl))

-- a test that fails, and what it says
pub false_means : (P : Type 0) (t : Bool) → t ≡ false → (P → t ≡ true) → P → ⊥
false_means P t e again holds = let f = again holds in absurd cc

pub means_false : (P : Type 0) (t : Bool) → (t ≡ true → P) → (P → ⊥) → t ≡ false
means_false P true holds never = absurd (never (holds refl))
means_false P false holds never = refl

-- what came isn't the fault, so it is there
pub there : {A : Type 0} (broken : ClaimFault) (found : Option A) (a : A) → or_fault broken found ≡ Ok a → found ≡ Some a
there broken None a h = absurd cc
there broken (Some x) a h = let e : x ≡ a = cc in ap (λ y. Some y) e
