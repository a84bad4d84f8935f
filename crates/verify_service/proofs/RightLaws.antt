-- What is right stays right if one chain more is held or kept.
use Rattle.std.proofs.Common.{◌≡◌, ℕ, ◌⊎◌, inl, inr, Bool, true, false, cond, List, Option, Some, refl, sym, ap, ◌∙◌, subst}
use Rattle.std.proofs.lemmas.Option.{same_Some}
use Rattle.std.specs.Cmp.Lexicographic.{bytes_decides}
use Rattle.std.specs.Str.{bytes_eq}
use Rattle.cert_store.specs.Judged.{JudgedView}
use Rattle.cert_store.specs.Rules.{Says}
use Rattle.cert_store.specs.Asking.{is_failed}
use Rattle.cert_store.specs.Holding.{Chains, Holding, chain_of, put_in}
use Rattle.stir_outside.specs.Files.{Files}
use Rattle.verify_rules.specs.States.{State, have, long, no_chain, unread}
use Rattle.call_judging.specs.Chains.{IsRightWhere}
use Rattle.verify_service.specs.Kept.{HoldsChain, KeepsChain, Kept, StoresChain, StoresJudged, kept_state}
use Rattle.verify_service.specs.RightChains.{AreRightHeld}
use Rattle.cert_store.specs.declared.world.World.{World as Materials}

abbrev pub FoundLaw : Type 0
FoundLaw = (x5u other : List ℕ) (judged found : JudgedView) (holding : Holding) → chain_of other (put_in x5u judged holding) ≡ Some found
    → ((other ≡ x5u) × (found ≡ judged)) ⊎ (chain_of other holding.entries ≡ Some found)

kept_right : (told : Option Files) (materials : Materials) (says : Says) (x5u x : List ℕ) (state s : State) (kept : Kept) (b : Bool) → bytes_eq x5u x ≡ b
    → cond b (Some state) (kept_state x kept) ≡ Some s → IsRightWhere told materials says x5u state
    → ((x : List ℕ) (s : State) → kept_state x kept ≡ Some s → IsRightWhere told materials says x s) → IsRightWhere told materials says x s
kept_right told materials says x5u x state s kept true is at here others =
    subst (λ (t : List ℕ). IsRightWhere told materials says t s) ((bytes_decides x5u x).0 is)
    (subst (λ (v : State). IsRightWhere told materials says x5u v) (same_Some state s at) here)
kept_right told materials says x5u x state s kept false is at here others = others x s at

kept_one : (told : Option Files) (materials : Materials) (says : Says) (x5u : List ℕ) (state : State) (held now : Holding) (kept kept_now : Kept) → KeepsChain x5u state held now kept kept_now
    → IsRightWhere told materials says x5u state → AreRightHeld told materials says held.entries kept → AreRightHeld told materials says now.entries kept_now
kept_one told materials says x5u state held now kept kept_now one here right = record {
  cached = λ x judged at. right.cached x judged (sym (ap (λ (h : Holding). chain_of x h.entries) one.same) ∙ at);
  others = λ x s at. kept_right told materials says x5u x state s kept (bytes_eq x5u x) refl (sym (one.keeps x) ∙ at) here right.others;
}

held_right : (told : Option Files) (materials : Materials) (says : Says) (x5u x : List ℕ) (judged found : JudgedView) (held : Chains)
    → IsRightWhere told materials says x5u (have judged) → ((x : List ℕ) (j : JudgedView) → chain_of x held ≡ Some j → IsRightWhere told materials says x (have j))
    → ((x ≡ x5u) × (found ≡ judged)) ⊎ (chain_of x held ≡ Some found) → IsRightWhere told materials says x (have found)
held_right told materials says x5u x judged found held here before (inl same) =
    subst (λ (t : List ℕ). IsRightWhere told materials says t (have found)) (sym same.0) (subst (λ (j : JudgedView). IsRightWhere told materials says x5u (have j)) (sym same.1) here)
held_right told materials says x5u x judged found held here before (inr at) = before x found at

held_one : FoundLaw → (told : Option Files) (materials : Materials) (says : Says) (x5u : List ℕ) (judged : JudgedView) (held now : Holding) (kept kept_now : Kept)
    → HoldsChain x5u judged held now kept kept_now → IsRightWhere told materials says x5u (have judged) → AreRightHeld told materials says held.entries kept
    → AreRightHeld told materials says now.entries kept_now
held_one law told materials says x5u judged held now kept kept_now one here right = record {
  cached = λ x found at.
      held_right told materials says x5u x judged found held.entries here right.cached
      (law x5u x judged found held (sym (ap (λ (h : Holding). chain_of x h.entries) one.holds) ∙ at));
  others = λ x s at. right.others x s (sym (ap (kept_state x) one.same) ∙ at);
}

judged_right : FoundLaw → (told : Option Files) (materials : Materials) (says : Says) (x5u : List ℕ) (judged : JudgedView) (held now : Holding) (kept kept_now : Kept) (failed : Bool)
    → StoresJudged failed x5u judged held now kept kept_now → IsRightWhere told materials says x5u (have judged) → AreRightHeld told materials says held.entries kept
    → AreRightHeld told materials says now.entries kept_now
judged_right law told materials says x5u judged held now kept kept_now true one here right = kept_one told materials says x5u (have judged) held now kept kept_now one here right
judged_right law told materials says x5u judged held now kept kept_now false one here right = held_one law told materials says x5u judged held now kept kept_now one here right

-- a chain that is right and stored leaves all right
pub stored_right : FoundLaw → (told : Option Files) (materials : Materials) (says : Says) (x5u : List ℕ) (state : State) (held now : Holding) (kept kept_now : Kept)
    → StoresChain x5u state held now kept kept_now → IsRightWhere told materials says x5u state → AreRightHeld told materials says held.entries kept
    → AreRightHeld told materials says now.entries kept_now
stored_right law told materials says x5u (have judged) held now kept kept_now one here right =
    judged_right law told materials says x5u judged held now kept kept_now (is_failed judged.asked) one here right
stored_right law told materials says x5u no_chain held now kept kept_now one here right = kept_one told materials says x5u no_chain held now kept kept_now one here right
stored_right law told materials says x5u long held now kept kept_now one here right = kept_one told materials says x5u long held now kept kept_now one here right
stored_right law told materials says x5u unread held now kept kept_now one here right = kept_one told materials says x5u unread held now kept kept_now one here right
