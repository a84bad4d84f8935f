-- One certificate more of those of which it is asked whether the payload meets their constraints.
use Rattle.std.proofs.Common.{◌≡◌, ℕ, zero, suc, ◌+◌, ◌-◌, ◌≤◌, Bool, true, false, cond, List, [], ◌∷◌, length, drop, Option, Some, None, refl, sym, ◌∙◌, ap, arith}
use Rattle.std.specs.List.{slice_get}
use Rattle.std.proofs.lemmas.List.{drop_all}
use Rattle.claim_constraints.specs.Constraints.{ConstraintsView}
use Rattle.serde_json.specs.Data.{Data}
use Rattle.x509_profile.specs.View.{CertView}
use Rattle.cert_store.specs.Judged.{JudgedView, constraints_at, demanded}
use Rattle.verify_rules.specs.Unmet.{first_unmet, is_met}

-- this one is passed over
passes : (payload : Option Data) (number next : ℕ) (certificates : List CertView) (i : ℕ) → next ≡ number + 1 → is_met (demanded (slice_get certificates i)) payload ≡ true
    → first_unmet payload next (drop (suc i) certificates) ≡ first_unmet payload number (drop i certificates)
passes payload number next [] zero n e = refl
passes payload number next [] (suc i) n e = refl
passes payload number next (c ∷ certificates) zero n e =
    ap (λ k. first_unmet payload k certificates) n ∙ sym (ap (λ t. cond t (first_unmet payload (number + 1) certificates) (Some number)) e)
passes payload number next (c ∷ certificates) (suc i) n e = passes payload number next certificates i n e

-- this one is it
fails : (payload : Option Data) (number : ℕ) (certificates : List CertView) (i : ℕ) → is_met (demanded (slice_get certificates i)) payload ≡ false
    → first_unmet payload number (drop i certificates) ≡ Some number
fails payload number [] zero e = cc
fails payload number [] (suc i) e = cc
fails payload number (c ∷ certificates) zero e = ap (λ t. cond t (first_unmet payload (number + 1) certificates) (Some number)) e
fails payload number (c ∷ certificates) (suc i) e = fails payload number certificates i e

-- what is asked of the one at an index
asked_of : (payload : Option Data) (given : Data) (judged : JudgedView) (i : ℕ) (c : Option ConstraintsView) (t good : Bool) → payload ≡ Some given → c ≡ constraints_at judged (i + 1)
    → t ≡ is_met c (Some given) → t ≡ good → is_met (demanded (slice_get judged.certificates i)) payload ≡ good
asked_of payload given judged i c t good is at met known =
    let index : i ≡ i + 1 - 1 = omega arith in
    ap (λ k. is_met (demanded (slice_get judged.certificates k)) payload) index ∙ ap (λ x. is_met x payload) (sym at) ∙ ap (is_met c) is ∙ sym met ∙ known

pub unmet_more : (payload : Option Data) (given : Data) (judged : JudgedView) (i : ℕ) (c : Option ConstraintsView) (t : Bool) (all : Option ℕ) → payload ≡ Some given
    → c ≡ constraints_at judged (i + 1) → t ≡ is_met c (Some given) → t ≡ true → first_unmet payload (i + 1) (drop i judged.certificates) ≡ all
    → first_unmet payload (i + 1 + 1) (drop (i + 1) judged.certificates) ≡ all
unmet_more payload given judged i c t all is at met known left =
    let behind : i + 1 ≡ suc i = omega arith in
    ap (λ k. first_unmet payload (i + 1 + 1) (drop k judged.certificates)) behind
    ∙ passes payload (i + 1) (i + 1 + 1) judged.certificates i refl (asked_of payload given judged i c t true is at met known) ∙ left

pub unmet_here : (payload : Option Data) (given : Data) (judged : JudgedView) (i : ℕ) (c : Option ConstraintsView) (t : Bool) (all : Option ℕ) → payload ≡ Some given
    → c ≡ constraints_at judged (i + 1) → t ≡ is_met c (Some given) → t ≡ false → first_unmet payload (i + 1) (drop i judged.certificates) ≡ all → Some (i + 1) ≡ all
unmet_here payload given judged i c t all is at met known left =
    sym (fails payload (i + 1) judged.certificates i (asked_of payload given judged i c t false is at met known)) ∙ left

pub unmet_done : (payload : Option Data) (judged : JudgedView) (i : ℕ) (all : Option ℕ) → length judged.certificates ≤ i
    → first_unmet payload (i + 1) (drop i judged.certificates) ≡ all → None ≡ all
unmet_done payload judged i all end left = sym (ap (first_unmet payload (i + 1)) (drop_all i judged.certificates end)) ∙ left
