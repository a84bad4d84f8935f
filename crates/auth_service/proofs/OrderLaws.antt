-- What is promised of what is wanted is promised of the order that it comes from.
use Rattle.std.proofs.Common.{◌≡◌, refl, ℕ, List, Option, Result, IsTrue, sym, subst}
use Rattle.auth_service.specs.Asking.{IsLeftAlone}
use Rattle.auth_service.specs.Causes.{IsWithheld}
use Rattle.auth_service.specs.Order.{HolderView, IsInForm, OrderView, is_order, shape_of}
use Rattle.passport_claims.specs.declared.form.Form.{Form}
use Rattle.passport_claims.specs.declared.form.Form.TheVariants as forms
use Rattle.auth_service.specs.Promise.{IsPromised}
use Rattle.auth_service.specs.declared.fault.SignFault.{SignFault}

pub valid_as : (wanted order : OrderView) → wanted ≡ order → IsTrue (is_order order) → IsTrue (is_order wanted)
valid_as wanted order same h = subst (λ (x : OrderView). IsTrue (is_order x)) (sym same) h

pub promised_as : {X : Type 0} (seen : X → List ℕ) (bytes : List ℕ) (wanted order : OrderView) (holder : Option HolderView) (signs : List ℕ → List ℕ → Option (List ℕ)) (result : Result X SignFault)
    → IsPromised seen bytes wanted holder signs result → wanted ≡ order → IsPromised seen bytes order holder signs result
promised_as seen bytes wanted order holder signs result p same = subst (λ (x : OrderView). IsPromised seen bytes x holder signs result) same p

pub withheld_as : {X : Type 0} (bytes : List ℕ) (wanted order : OrderView) (holder : Option HolderView) (before now : ℕ) (result : Result X SignFault)
    → (IsWithheld bytes wanted holder → IsLeftAlone before now result) → wanted ≡ order → IsWithheld bytes order holder → IsLeftAlone before now result
withheld_as bytes wanted order holder before now result p same w = p (subst (λ (x : OrderView). IsWithheld bytes x holder) (sym same) w)

-- ---- the form

pub in_form : (form : Form) → IsInForm form (shape_of form)
in_form forms.Base = record { kind = refl; compact = (λ e. absurd cc, λ e. absurd cc) }
in_form forms.Compact = record { kind = refl; compact = (λ e. refl, λ e. refl) }
in_form (forms.Shaken level origid) = record { kind = refl; compact = (λ e. absurd cc, λ e. absurd cc) }
