-- What the tests of a path mean: of path lengths, of key identifiers, of anchors.
use Rattle.std.proofs.Common.{◌≡◌, ℕ, zero, suc, ◌-◌, ◌*◌, ◌^◌, ◌<◌, ◌≤◌, ◌==◌, ◌⊎◌, inl, inr, Bool, true, false, cond, nat_lt, bit_and, List, [], ◌∷◌, Option, Some, None, Ok, Err, refl, sym, ap, subst, ◌∙◌, arith, lt-ltb, ltb-true}
use Rattle.std.specs.Int.{bit_at}
use Rattle.std.specs.List.{slice_get}
use Rattle.std.specs.Str.{bytes_eq}
use Rattle.std.proofs.lemmas.Bool.{or_cases, or_left, or_right}
use Rattle.std.proofs.lemmas.Bool.Decides.{nat_tests}
use Rattle.std.proofs.lemmas.Nat.Bits.{and_pow, bit_at-lt}
use Rattle.std.proofs.lemmas.Option.{same_Some}
use Rattle.std.proofs.lemmas.Slice.Eq.{bytes_eq-Decides}
use Rattle.x509_profile.specs.View.{CertView}
use Rattle.delegation.specs.declared.fault.PathFault.{PathFault}
use Rattle.delegation.specs.Path.{agree, fault_at, find_anchor, first_from, fits, is_listed, is_long_enough, some_anchor}
use Rattle.delegation.specs.PathFaults.{Fits, IsUnanchored}
use Rattle.delegation.specs.Usage.{CannotCertify, Lacks, allows, digital_signature, key_cert_sign, may_certify, may_sign}

-- no test passes and fails
pub clash : {P : Type 0} (t : Bool) → t ≡ true → t ≡ false → P
clash true e f = absurd cc
clash false e f = absurd cc

-- ---- key usages

-- a usage isn't among others exactly if its bit isn't set in them
unset : (usages bit mask : ℕ) → bit_and usages mask ≡ bit_at usages bit * mask → (bit_and usages mask == mask) ≡ false → bit_at usages bit ≡ 0
unset usages bit mask e f = of (bit_at usages bit) (bit_at-lt usages bit) e
  where
    of : (x : ℕ) → x < 2 → bit_and usages mask ≡ x * mask → x ≡ 0
    of zero l e = refl
    of (suc zero) l e =
        let all : bit_and usages mask ≡ mask = omega (arith, e) in
        grind (arith, nat_tests, f, all)
    of (suc (suc x)) l e = absurd (omega (arith, l))

unset_again : (usages bit mask : ℕ) → bit_and usages mask ≡ bit_at usages bit * mask → 0 < mask → bit_at usages bit ≡ 0
    → (bit_and usages mask == mask) ≡ false
unset_again usages bit mask e some is =
    let same : bit_and usages mask ≡ 0 * mask = e ∙ ap (λ x. x * mask) is in
    let none : bit_and usages mask ≡ 0 = omega (arith, same) in
    grind (arith, nat_tests, none, some)

lacks : (bit : ℕ) (c : CertView) (given : Option ℕ) → c.usage ≡ given → allows given (2 ^ bit) ≡ false → Lacks bit c
lacks bit c None is e = absurd cc
lacks bit c (Some usages) is e = (usages, is, unset usages bit (2 ^ bit) (and_pow usages bit) e)

lacks_again : (bit : ℕ) (c : CertView) → 0 < 2 ^ bit → Lacks bit c → allows c.usage (2 ^ bit) ≡ false
lacks_again bit c some (usages, is, none) = rw is (unset_again usages bit (2 ^ bit) (and_pow usages bit) some none)

pub no_signer : (leaf : CertView) → may_sign leaf ≡ false → Lacks digital_signature leaf
no_signer leaf e = lacks digital_signature leaf leaf.usage refl e

pub signs_not : (leaf : CertView) → Lacks digital_signature leaf → may_sign leaf ≡ false
signs_not leaf n = lacks_again digital_signature leaf (omega arith) n

pub no_certifier : (c : CertView) → may_certify c ≡ false → CannotCertify c
no_certifier c e = of c.is_ca refl e
  where
    of : (t : Bool) → c.is_ca ≡ t → cond t (allows c.usage 0x0020) false ≡ false → CannotCertify c
    of true is e = inr (lacks key_cert_sign c c.usage refl e)
    of false is e = inl is

pub certifies_not : (c : CertView) → CannotCertify c → may_certify c ≡ false
certifies_not c (inl other) = rw other refl
certifies_not c (inr n) = of c.is_ca
  where
    of : (t : Bool) → cond t (allows c.usage 0x0020) false ≡ false
    of true = lacks_again key_cert_sign c (omega arith) n
    of false = refl

-- ---- path lengths

pub too_far : (reach : Option ℕ) (most between : ℕ) → reach ≡ Some most → most < between → is_long_enough reach between ≡ false
too_far reach most between e far = rw (e, lt-ltb most between far) refl

far_by : (most between : ℕ) (t : Bool) → nat_lt most between ≡ t → cond t false true ≡ false → most < between
far_by most between true t e = ltb-true most between t
far_by most between false t e = absurd cc

pub not_enough : (reach : Option ℕ) (between : ℕ) → is_long_enough reach between ≡ false → (most : ℕ) × (reach ≡ Some most) × (most < between)
not_enough None between e = absurd cc
not_enough (Some most) between e = (most, refl, far_by most between (nat_lt most between) refl e)

near_by : (most between : ℕ) (t : Bool) → nat_lt most between ≡ t → cond t false true ≡ true → between ≤ most
near_by most between true t e = absurd cc
near_by most between false t e = grind (arith, nat_tests, t)

enough_means : (reach : Option ℕ) (between : ℕ) → is_long_enough reach between ≡ true → (most : ℕ) → reach ≡ Some most → between ≤ most
enough_means None between e most is = absurd cc
enough_means (Some own) between e most is =
    let same : own ≡ most = same_Some own most is in
    subst (λ n. between ≤ n) same (near_by own between (nat_lt own between) refl e)

means_enough : (reach : Option ℕ) (between : ℕ) → ((most : ℕ) → reach ≡ Some most → between ≤ most) → is_long_enough reach between ≡ true
means_enough None between h = refl
means_enough (Some most) between h =
    let near : between ≤ most = h most refl in
    let test : nat_lt most between ≡ false = grind (arith, nat_tests, near) in
    rw test refl

-- ---- key identifiers

agree_means : (a b : Option (List ℕ)) → agree a b ≡ true → (own authority : List ℕ) → a ≡ Some own → b ≡ Some authority → own ≡ authority
agree_means (Some a) (Some b) e own authority f g = sym (same_Some a own f) ∙ ((bytes_eq-Decides a b).0 e ∙ same_Some b authority g)
agree_means (Some a) None e own authority f g = absurd cc
agree_means None b e own authority f g = absurd cc

means_agree : (a b : Option (List ℕ)) → ((own authority : List ℕ) → a ≡ Some own → b ≡ Some authority → own ≡ authority) → agree a b ≡ true
means_agree (Some a) (Some b) h = (bytes_eq-Decides a b).1 (h a b refl refl)
means_agree (Some a) None h = refl
means_agree None b h = refl

-- ---- an anchor that fits

pub fits_means : (below : ℕ) (last anchor : CertView) → fits (suc below) last anchor ≡ true → Fits below last anchor
fits_means below last anchor e = of (bytes_eq anchor.subject last.issuer) (is_long_enough anchor.path_length (suc below - 1)) refl refl e
  where
    of : (a b : Bool) → bytes_eq anchor.subject last.issuer ≡ a → is_long_enough anchor.path_length (suc below - 1) ≡ b
        → cond a (cond b (agree anchor.subject_key last.authority_key) false) false ≡ true → Fits below last anchor
    of true true n l e =
        let same : suc below - 1 ≡ below = omega arith in
        let long : is_long_enough anchor.path_length below ≡ true = subst (λ k. is_long_enough anchor.path_length k ≡ true) same l in
        record {
          names = (bytes_eq-Decides anchor.subject last.issuer).0 n;
          enough = enough_means anchor.path_length below long;
          keys = agree_means anchor.subject_key last.authority_key e;
        }
    of true false n l e = absurd cc
    of false b n l e = absurd cc

pub means_fits : (below : ℕ) (last anchor : CertView) → Fits below last anchor → fits (suc below) last anchor ≡ true
means_fits below last anchor f =
    let same : below ≡ suc below - 1 = omega arith in
    let names : bytes_eq anchor.subject last.issuer ≡ true = (bytes_eq-Decides anchor.subject last.issuer).1 f.names in
    let long : is_long_enough anchor.path_length (suc below - 1) ≡ true =
    subst (λ k. is_long_enough anchor.path_length k ≡ true) same (means_enough anchor.path_length below f.enough) in
    rw (names, long, means_agree anchor.subject_key last.authority_key f.keys) refl

-- ---- an anchor of the list

pub listed_found : (last : CertView) (anchors : List CertView) → is_listed last anchors ≡ true
    → (i : ℕ) × (anchor : CertView) × (slice_get anchors i ≡ Some anchor) × (anchor.whole ≡ last.whole)
listed_found last [] e = absurd cc
listed_found last (a ∷ anchors) e = of (listed_found last anchors) (or_cases (bytes_eq a.whole last.whole) (is_listed last anchors) e)
  where
    of : (is_listed last anchors ≡ true → (i : ℕ) × (anchor : CertView) × (slice_get anchors i ≡ Some anchor) × (anchor.whole ≡ last.whole))
        → (bytes_eq a.whole last.whole ≡ true) ⊎ (is_listed last anchors ≡ true)
        → (i : ℕ) × (anchor : CertView) × (slice_get (a ∷ anchors) i ≡ Some anchor) × (anchor.whole ≡ last.whole)
    of again (inl here) = (zero, a, refl, (bytes_eq-Decides a.whole last.whole).0 here)
    of again (inr more) = let m = again more in (suc m.0, m.1, m.2, m.3)

pub found_listed : (last : CertView) (anchors : List CertView) (i : ℕ) (anchor : CertView) → slice_get anchors i ≡ Some anchor → anchor.whole ≡ last.whole
    → is_listed last anchors ≡ true
found_listed last [] i anchor there same = absurd cc
found_listed last (a ∷ anchors) zero anchor there same =
    let whole : a.whole ≡ last.whole = ap (λ (c : CertView). c.whole) (same_Some a anchor there) ∙ same in
    or_left (bytes_eq a.whole last.whole) (is_listed last anchors) ((bytes_eq-Decides a.whole last.whole).1 whole)
found_listed last (a ∷ anchors) (suc i) anchor there same =
    or_right (bytes_eq a.whole last.whole) (is_listed last anchors) (found_listed last anchors i anchor there same)

-- if none is the first to pass a test, none passes it
none_passes : (test : CertView → Bool) (n : ℕ) (cs : List CertView) → first_from test n cs ≡ None → (i : ℕ) (c : CertView) → slice_get cs i ≡ Some c
    → test c ≡ false
unfolding first_from
none_passes test n [] e i c there = absurd cc
none_passes test n (x ∷ cs) e i c there = of (none_passes test (suc n) cs) (test x) refl e i c there
  where
    of : (first_from test (suc n) cs ≡ None → (i : ℕ) (c : CertView) → slice_get cs i ≡ Some c → test c ≡ false)
        → (t : Bool) → test x ≡ t → cond t (Some n) (first_from test (suc n) cs) ≡ None → (i : ℕ) (c : CertView) → slice_get (x ∷ cs) i ≡ Some c
        → test c ≡ false
    of again true t e i c there = absurd cc
    of again false t e zero c there = ap test (sym (same_Some x c there)) ∙ t
    of again false t e (suc i) c there = again e i c there

-- if no anchor is found none is there
pub find_refused : (below : ℕ) (last : CertView) (anchors : List CertView) (fault : PathFault) → find_anchor (suc below) last anchors ≡ Err fault
    → (fault_at 5 (suc below) ≡ fault) × IsUnanchored below last anchors
unfolding find_anchor
find_refused below last anchors fault e = of (is_listed last anchors) refl e
  where
    stands : first_from (fits (suc below) last) 0 anchors ≡ None → is_listed last anchors ≡ false → (i : ℕ) (anchor : CertView)
        → slice_get anchors i ≡ Some anchor → (anchor.whole ≡ last.whole) ⊎ Fits below last anchor → ⊥
    stands is t i anchor there (inl same) = clash (is_listed last anchors) (found_listed last anchors i anchor there same) t
    stands is t i anchor there (inr f) =
        clash (fits (suc below) last anchor) (means_fits below last anchor f) (none_passes (fits (suc below) last) 0 anchors is i anchor there)

    chosen : (f : Option ℕ) → first_from (fits (suc below) last) 0 anchors ≡ f → is_listed last anchors ≡ false → some_anchor (suc below) f ≡ Err fault
        → (fault_at 5 (suc below) ≡ fault) × IsUnanchored below last anchors
    chosen (Some i) is t e = absurd cc
    chosen None is t e = let same : fault_at 5 (suc below) ≡ fault = cc in (same, stands is t)

    of : (t : Bool) → is_listed last anchors ≡ t → cond t (Ok None) (some_anchor (suc below) (first_from (fits (suc below) last) 0 anchors)) ≡ Err fault
        → (fault_at 5 (suc below) ≡ fault) × IsUnanchored below last anchors
    of true t e = absurd cc
    of false t e = chosen (first_from (fits (suc below) last) 0 anchors) refl t e
