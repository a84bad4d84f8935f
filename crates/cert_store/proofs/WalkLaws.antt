-- Rules that go from certificate to certificate: where they end, and what holds of those that they pass.
use Rattle.std.proofs.Common.{◌≡◌, ℕ, zero, suc, ◌+◌, ◌-◌, ◌<◌, ◌≤◌, Bool, true, false, cond, List, [], ◌∷◌, length, drop, inl, inr, Option, Some, None, refl, sym, ◌∙◌, subst, arith}
use Rattle.std.specs.List.{slice_get}
use Rattle.std.proofs.lemmas.Option.{slice_get_within, slice_get_cases, same_Some}
use Rattle.x509_profile.specs.View.{CertView}
use Rattle.cert_store.specs.Words.{IsFirstBroken}

-- a test of a certificate and of those above it
abbrev pub Test : Type 0
Test = CertView → List CertView → Bool

-- the number of the first that fails the test, if the first of all has this number
abbrev pub walk : Test → ℕ → List CertView → Option ℕ
walk passes number [] = None
walk passes number (c ∷ above) = cond (passes c above) (walk passes (suc number) above) (Some number)

-- the certificate at an index passes the test
abbrev Passes : Test → List CertView → ℕ → Type 0
Passes passes chain i = (c : CertView) → slice_get chain i ≡ Some c → passes c (drop (suc i) chain) ≡ true

-- what a walk ends with is right
abbrev Right : Test → ℕ → List CertView → Option ℕ → Type 0
Right passes number chain None = (i : ℕ) → Passes passes chain i
Right passes number chain (Some broken) =
    (k : ℕ) × (c : CertView) × (broken ≡ number + k) × (slice_get chain k ≡ Some c) × (passes c (drop (suc k) chain) ≡ false)
    × ((i : ℕ) → i < k → Passes passes chain i)

here : (passes : Test) (c : CertView) (above : List CertView) → passes c above ≡ true → Passes passes (c ∷ above) 0
here passes c above t d is = let same : c ≡ d = same_Some c d is in subst (λ x. passes x above ≡ true) same t

later : (passes : Test) (c : CertView) (above : List CertView) → passes c above ≡ true → ((i : ℕ) → Passes passes above i) → (i : ℕ) → Passes passes (c ∷ above) i
later passes c above t all zero = here passes c above t
later passes c above t all (suc i) = all i

later_below : (passes : Test) (c : CertView) (above : List CertView) (k : ℕ) → passes c above ≡ true → ((i : ℕ) → i < k → Passes passes above i)
    → (i : ℕ) → i < suc k → Passes passes (c ∷ above) i
later_below passes c above k t all zero h = here passes c above t
later_below passes c above k t all (suc i) h = all i (omega (arith, h))

on : (passes : Test) (number : ℕ) (c : CertView) (above : List CertView) (t : Bool) (o : Option ℕ) → passes c above ≡ t → Right passes (suc number) above o
    → Right passes number (c ∷ above) (cond t o (Some number))
on passes number c above true None t right = later passes c above t right
on passes number c above true (Some broken) t (k, d, is, there, fails, below) =
    (suc k, d, omega (arith, is), there, fails, later_below passes c above k t below)
on passes number c above false o t right = (0, c, omega arith, refl, t, λ i h. absurd (omega (arith, h)))

walk_right : (passes : Test) (number : ℕ) (chain : List CertView) → Right passes number chain (walk passes number chain)
walk_right passes number [] = λ i c is. absurd (cc)
walk_right passes number (c ∷ above) = on passes number c above (passes c above) _ refl (walk_right passes (suc number) above)

-- ---- in words

-- a fact on the certificate of a number says the same as the test
pub record Means (Holds : ℕ → Type 0) (passes : Test) (chain : List CertView) : Type 0 where
  pub to : (i : ℕ) (c : CertView) → slice_get chain i ≡ Some c → passes c (drop (suc i) chain) ≡ true → Holds (suc i)
  pub from : (i : ℕ) (c : CertView) → slice_get chain i ≡ Some c → Holds (suc i) → passes c (drop (suc i) chain) ≡ true

holds_at : (Holds : ℕ → Type 0) (passes : Test) (chain : List CertView) → Means Holds passes chain → (i : ℕ) → i < length chain → Passes passes chain i → Holds (suc i)
holds_at Holds passes chain m i inside p =
    elim (slice_get_cases chain i).1 [
      | inl (c, within, is, at) ↦ m.to i c is (p c is)
      | inr (past, none) ↦ absurd (omega (arith, inside, past))
    ]

numbered : (Holds : ℕ → Type 0) (number : ℕ) → 1 ≤ number → Holds (suc (number - 1)) → Holds number
numbered Holds number some h = subst Holds (omega (arith, some)) h

worded_by : (Holds : ℕ → Type 0) (passes : Test) (chain : List CertView) (o : Option ℕ) → Means Holds passes chain → Right passes 1 chain o
    → IsFirstBroken Holds (length chain) o
worded_by Holds passes chain None m right = λ number some most.
    numbered Holds number some (holds_at Holds passes chain m (number - 1) (omega (arith, some, most)) (right (number - 1)))
worded_by Holds passes chain (Some broken) m (k, c, is, there, fails, below) =
    let within = slice_get_within chain k c there in
    let same : broken ≡ suc k = omega (arith, is) in (
      omega (arith, same),
      omega (arith, same, within),
      λ h. let t = m.from k c there (subst Holds same h) in let both : true ≡ false = sym t ∙ fails in absurd (cc),
      λ number some less.
          numbered Holds number some (holds_at Holds passes chain m (number - 1) (omega (arith, some, less, same, within)) (below (number - 1) (omega (arith, some, less, same)))),
    )

pub worded : (Holds : ℕ → Type 0) (passes : Test) (chain : List CertView) → Means Holds passes chain → IsFirstBroken Holds (length chain) (walk passes 1 chain)
worded Holds passes chain m = worded_by Holds passes chain (walk passes 1 chain) m (walk_right passes 1 chain)
