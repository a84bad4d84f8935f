-- What the holding of rule 19 means, and where it is broken, of one PASSporT whose chain is one of certificates of the profile.
use Rattle.std.proofs.Common.{◌≡◌, ◌↔◌, ℕ, zero, suc, ◌+◌, ◌-◌, ◌<◌, ◌≤◌, Bool, true, false, cond, List, [], ◌∷◌, length, Option, Some, None, refl, sym, ◌∙◌, ap, subst, arith}
use Rattle.std.specs.List.{slice_get}
use Rattle.claim_constraints.specs.Constraints.{ConstraintsView}
use Rattle.serde_json.specs.Data.{Data}
use Rattle.x509_profile.specs.View.{CertView}
use Rattle.cert_store.specs.Words.{IsFirstBroken}
use Rattle.verify_rules.specs.Call.{Reading, payload_of}
use Rattle.verify_rules.specs.Late.{by_part}
use Rattle.verify_rules.specs.LateWords.{IsAllowed, IsInProfile, MeetsAt, PayloadMeets}
use Rattle.verify_rules.specs.Unmet.{are_met, first_unmet, is_met}
use Rattle.verify_rules.specs.World.{HoldsBytes, World, broken_by, part_at}
use Rattle.verify_rules.specs.declared.late.LateRule.TheVariants as late
use Rattle.verify_rules.proofs.ChainMeans.{ChainLaws, Known, MeetsLaw, judged_says, known}

-- ---- one certificate

met_by : MeetsLaw → (one : Reading) (c : ConstraintsView) (payload : Option Data) → payload_of one ≡ payload → are_met c payload ≡ true → PayloadMeets one c
met_by law one c None is e = absurd cc
met_by law one c (Some payload) is e = record { payload = payload; signed = is; meets = (law c payload).0 e }

met_again : MeetsLaw → (one : Reading) (c : ConstraintsView) → PayloadMeets one c → are_met c (payload_of one) ≡ true
met_again law one c m = ap (are_met c) m.signed ∙ (law c m.payload).1 m.meets

-- what it demands is met
abbrev Allows : Reading → CertView → Type 0
Allows one certificate = (c : ConstraintsView) → certificate.constraints ≡ Some c → PayloadMeets one c

allows_by : MeetsLaw → (one : Reading) (certificate : CertView) → is_met certificate.constraints (payload_of one) ≡ true → Allows one certificate
allows_by law one certificate e = λ c has. met_by law one c (payload_of one) refl (ap (λ x. is_met x (payload_of one)) (sym has) ∙ e)

refuses_by : MeetsLaw → (one : Reading) (certificate : CertView) (constraints : Option ConstraintsView) → certificate.constraints ≡ constraints
    → is_met constraints (payload_of one) ≡ false → Allows one certificate → ⊥
refuses_by law one certificate None has e allows = absurd cc
refuses_by law one certificate (Some c) has e allows = let met = met_again law one c (allows c has) in absurd cc

-- ---- the first

-- of each of these it is met, or this is the first of which it isn't; they are numbered from this on
abbrev FirstFrom : Reading → ℕ → List CertView → Option ℕ → Type 0
FirstFrom one number certificates None = (i : ℕ) (certificate : CertView) → slice_get certificates i ≡ Some certificate → Allows one certificate
FirstFrom one number certificates (Some bad) =
    (k : ℕ) × (bad ≡ number + k) × (wrong : CertView) × (slice_get certificates k ≡ Some wrong) × (Allows one wrong → ⊥)
    × ((i : ℕ) (certificate : CertView) → i < k → slice_get certificates i ≡ Some certificate → Allows one certificate)

later : (one : Reading) (number : ℕ) (c : CertView) (certificates : List CertView) (o : Option ℕ) → Allows one c → FirstFrom one (number + 1) certificates o
    → FirstFrom one number (c ∷ certificates) o
later one number c certificates None here below = of
  where
    of : (i : ℕ) (certificate : CertView) → slice_get (c ∷ certificates) i ≡ Some certificate → Allows one certificate
    of zero certificate is = let same : c ≡ certificate = cc in subst (Allows one) same here
    of (suc i) certificate is = below i certificate is
later one number c certificates (Some bad) here (k, at, wrong, is, fails, before) = (suc k, omega (arith, at), wrong, is, fails, of)
  where
    of : (i : ℕ) (certificate : CertView) → i < suc k → slice_get (c ∷ certificates) i ≡ Some certificate → Allows one certificate
    of zero certificate less there = let same : c ≡ certificate = cc in subst (Allows one) same here
    of (suc i) certificate less there = before i certificate (omega (arith, less)) there

none_before : (one : Reading) (certificates : List CertView) (i : ℕ) (certificate : CertView) → i < 0 → slice_get certificates i ≡ Some certificate → Allows one certificate
none_before one certificates i certificate less there = absurd (omega (arith, less))

first_from : MeetsLaw → (one : Reading) (number : ℕ) (certificates : List CertView) → FirstFrom one number certificates (first_unmet (payload_of one) number certificates)
first_from law one number [] = of
  where
    of : (i : ℕ) (certificate : CertView) → slice_get [] i ≡ Some certificate → Allows one certificate
    of zero certificate is = absurd cc
    of (suc i) certificate is = absurd cc
first_from law one number (c ∷ certificates) = of (first_from law one (number + 1) certificates) (is_met c.constraints (payload_of one)) refl
  where
    of : FirstFrom one (number + 1) certificates (first_unmet (payload_of one) (number + 1) certificates) → (t : Bool) → is_met c.constraints (payload_of one) ≡ t
        → FirstFrom one number (c ∷ certificates) (cond t (first_unmet (payload_of one) (number + 1) certificates) (Some number))
    of below true e = later one number c certificates (first_unmet (payload_of one) (number + 1) certificates) (allows_by law one c e) below
    of below false e = (0, omega arith, c, refl, refuses_by law one c c.constraints refl e, none_before one (c ∷ certificates))

-- ---- in the rule's words

within : (certificates : List CertView) (k : ℕ) (certificate : CertView) → slice_get certificates k ≡ Some certificate → k < length certificates
within [] zero certificate is = absurd cc
within [] (suc k) certificate is = absurd cc
within (c ∷ certificates) zero certificate is = omega arith
within (c ∷ certificates) (suc k) certificate is = let less = within certificates k certificate is in omega (arith, less)

worded_by : (one : Reading) (chain : List CertView) (o : Option ℕ) → FirstFrom one 1 chain o → IsFirstBroken (MeetsAt one chain) (length chain) o
worded_by one chain None all = λ number some most certificate c is has. all (number - 1) certificate is c has
worded_by one chain (Some bad) (k, at, wrong, is, fails, before) =
    let less = within chain k wrong is in
    let index : k ≡ bad - 1 = omega (arith, at) in (
      omega (arith, at),
      omega (arith, at, less),
      (λ holds. fails (λ c has. holds wrong c (sym (ap (slice_get chain) index) ∙ is) has)),
      (λ number some low certificate c there has. before (number - 1) certificate (omega (arith, some, low, at)) there c has),
    )

pub unmet_worded : MeetsLaw → (one : Reading) (chain : List CertView) → IsFirstBroken (MeetsAt one chain) (length chain) (first_unmet (payload_of one) 1 chain)
unmet_worded law one chain = worded_by one chain (first_unmet (payload_of one) 1 chain) (first_from law one 1 chain)

-- ---- of a PASSporT

-- what the rule says of its chain
pub unmet_says : (world : World) (moment : ℕ) (one : Reading) (chain : List CertView) (k : Known world one chain)
    → broken_by world late.Constraints moment one ≡ part_at one.mark.field (by_part (first_unmet (payload_of one) 1 chain))
unmet_says world moment one chain k =
    judged_says world late.Constraints moment one chain k ∙ ap (λ (x : List CertView). part_at one.mark.field (by_part (first_unmet (payload_of one) 1 x))) k.certificates

allowed_by : (one : Reading) (chain : List CertView) (o : Option ℕ) → IsFirstBroken (MeetsAt one chain) (length chain) o → part_at one.mark.field (by_part o) ≡ None
    → (number : ℕ) → 1 ≤ number → number ≤ length chain → MeetsAt one chain number
allowed_by one chain None w h = w
allowed_by one chain (Some bad) w h = absurd cc

allowed_again : (one : Reading) (chain : List CertView) (o : Option ℕ) → IsFirstBroken (MeetsAt one chain) (length chain) o
    → ((number : ℕ) → 1 ≤ number → number ≤ length chain → MeetsAt one chain number) → part_at one.mark.field (by_part o) ≡ None
allowed_again one chain None w all = refl
allowed_again one chain (Some bad) w all = absurd (w.2 (all bad w.0 w.1))

pub allowed_means : ChainLaws → (world : World) → HoldsBytes world → (moment : ℕ) (one : Reading) → IsInProfile world one
    → (broken_by world late.Constraints moment one ≡ None) ↔ IsAllowed world one
allowed_means laws world typed moment one (chain, h) = (
  (λ none.
      let k = known laws world typed one chain h in
      (chain, h, allowed_by one chain (first_unmet (payload_of one) 1 chain) (unmet_worded laws.met one chain) (sym (unmet_says world moment one chain k) ∙ none))),
  (λ (p : IsAllowed world one).
      let k = known laws world typed one p.0 p.1 in
      unmet_says world moment one p.0 k ∙ allowed_again one p.0 (first_unmet (payload_of one) 1 p.0) (unmet_worded laws.met one p.0) p.2),
)
