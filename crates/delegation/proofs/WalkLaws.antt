-- Steps of the walks over certificates: what is left gives what all gives.
use Rattle.std.proofs.Common.{◌≡◌, ℕ, zero, suc, ◌+◌, ◌<◌, ◌≤◌, Bool, true, false, List, [], ◌∷◌, length, drop, get_or, Some, None, Ok, Err, refl, sym, ap, ◌∙◌, arith}
use Rattle.std.proofs.Math.Seq.{drop-cons}
use Rattle.x509_profile.specs.View.{CertView}
use Rattle.delegation.specs.declared.fault.PathFault.{PathFault}
use Rattle.delegation.specs.Path.{first_from, last_of, link_at}

-- what is left from a place on begins with what is there
begins : (cs : List CertView) (k : ℕ) (c : CertView) → k < length cs → c ≡ get_or cs k c → drop k cs ≡ c ∷ drop (k + 1) cs
begins cs k c l is =
    let next : k + 1 ≡ suc k = omega arith in
    rw next (drop-cons cs k c l ∙ ap (λ x. x ∷ drop (suc k) cs) (sym is))

-- after the last place nothing is left
nothing : (cs : List CertView) (k : ℕ) → length cs ≤ k → drop k cs ≡ []
nothing [] zero l = refl
nothing [] (suc k) l = refl
nothing (c ∷ cs) zero l = absurd (omega arith)
nothing (c ∷ cs) (suc k) l = nothing cs k (omega (arith, l))

-- none is left
pub none_left : (test : CertView → Bool) (i k : ℕ) (cs : List CertView) → length cs ≤ k → first_from test i (drop k cs) ≡ None
unfolding first_from
none_left test i k cs l = rw (nothing cs k l) refl

-- the next one fits
pub is_first : (test : CertView → Bool) (i k : ℕ) (cs : List CertView) (c : CertView) → k < length cs → c ≡ get_or cs k c → test c ≡ true
    → first_from test i (drop k cs) ≡ Some i
unfolding first_from
is_first test i k cs c l is e = rw (begins cs k c l is, e) refl

-- the next one doesn't
pub is_passed : (test : CertView → Bool) (i k : ℕ) (cs : List CertView) (c : CertView) → k < length cs → c ≡ get_or cs k c → test c ≡ false
    → first_from test i (drop k cs) ≡ first_from test (i + 1) (drop (k + 1) cs)
unfolding first_from
is_passed test i k cs c l is e =
    let next : suc i ≡ i + 1 = omega arith in
    rw (begins cs k c l is, e, next) refl

-- the last one
pub at_last : (i k : ℕ) (below : CertView) (cs : List CertView) → length cs ≤ k → last_of i below (drop k cs) ≡ Ok below
unfolding last_of
at_last i k below cs l = rw (nothing cs k l) refl

-- the next one isn't the issuer
pub is_no_issuer : (i k : ℕ) (below c : CertView) (cs : List CertView) (fault : PathFault) → k < length cs → c ≡ get_or cs k c
    → link_at i below c ≡ Err fault → last_of i below (drop k cs) ≡ Err fault
unfolding last_of
is_no_issuer i k below c cs fault l is e = rw (begins cs k c l is, e) refl

-- the next one is
pub is_issuer : (i k : ℕ) (below c : CertView) (cs : List CertView) → k < length cs → c ≡ get_or cs k c → link_at i below c ≡ Ok c
    → last_of i below (drop k cs) ≡ last_of (i + 1) c (drop (k + 1) cs)
unfolding last_of
is_issuer i k below c cs l is e =
    let next : suc i ≡ i + 1 = omega arith in
    rw (begins cs k c l is, e, next) refl
