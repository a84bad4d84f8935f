-- One chain more is stored, by what its worker judged.
use Rattle.std.proofs.Common.{◌≡◌, ℕ, ◌+◌, ◌<◌, ◌≤◌, List, [], ◌∷◌, ◌++◌, get_or, length, take, Option, Some, None, sym, ap, ◌∙◌, subst}
use Rattle.std.proofs.lemmas.List.{take_all}
use Rattle.std.specs.List.{slice_get}
use Rattle.cert_store.specs.Holding.{Holding}
use Rattle.cert_store.specs.Judged.{JudgedView}
use Rattle.cert_store.specs.Using.{IsOnce, names}
use Rattle.verify_rules.specs.States.{State}
use Rattle.verify_service.specs.Kept.{Kept, StoresChain}
use Rattle.verify_service.specs.RoundRead.{StoresAll, StoresSome}
use Rattle.verify_service.proofs.FetchedLaws.{take_stands}
use Rattle.verify_service.proofs.ItemLaws.{same_item}
use Rattle.verify_service.proofs.StoreAllLaws.{stores_more}

pub store_next : (texts : List (List ℕ)) (states : List State) (i : ℕ) (x5u : List ℕ) (state known : State) (held mid now : Holding) (kept kept_mid kept_now : Kept)
    → slice_get texts i ≡ Some x5u → take (i + 1) states ≡ take i states ++ known ∷ [] → state ≡ known → IsOnce (names mid.entries)
    → StoresAll (take i texts) (take i states) held mid kept kept_mid → StoresChain x5u state mid now kept_mid kept_now
    → StoresAll (take (i + 1) texts) (take (i + 1) states) held now kept kept_now
store_next texts states i x5u state known held mid now kept kept_mid kept_now stands more same once all one =
    subst (λ (ts : List (List ℕ)). StoresAll ts (take (i + 1) states) held now kept kept_now) (sym (take_stands texts i x5u stands))
    (subst (λ (ss : List State). StoresAll (take i texts ++ x5u ∷ []) ss held now kept kept_now) (sym more)
    (stores_more (take i texts) (take i states) x5u known held mid now kept kept_mid kept_now all once (subst (λ (s : State). StoresChain x5u s mid now kept_mid kept_now) same one)))

-- what is taken is what was judged there
pub judged_at : {W : Type 0} → (slots : W → List (Option JudgedView)) (workers before : List W) (w place : ℕ) (one r d : W) → w < length workers → one ≡ get_or workers w r
    → get_or (slots (get_or workers w d)) place None ≡ get_or (slots (get_or before w d)) place None → get_or (slots one) place None ≡ get_or (slots (get_or before w d)) place None
judged_at slots workers before w place one r d within is there = ap (λ v. get_or (slots v) place None) (is ∙ same_item workers w r d within) ∙ there

pub stored_whole : (texts : List (List ℕ)) (states : List State) (i : ℕ) (held now : Holding) (kept kept_now : Kept) → length texts ≤ i → length states ≤ i
    → StoresAll (take i texts) (take i states) held now kept kept_now → StoresAll texts states held now kept kept_now
stored_whole texts states i held now kept kept_now over past all =
    subst (λ (ts : List (List ℕ)). StoresAll ts states held now kept kept_now) (take_all i texts over)
    (subst (λ (ss : List State). StoresAll (take i texts) ss held now kept kept_now) (take_all i states past) all)

pub stored_some : (texts : List (List ℕ)) (states : List State) (i : ℕ) (held mid now : Holding) (kept kept_now : Kept) → StoresAll (take i texts) (take i states) held mid kept kept_now
    → now ≡ mid → StoresSome texts states held now kept
stored_some texts states i held mid now kept kept_now all same =
    record { count = i; kept_now = kept_now; stores = subst (λ (h : Holding). StoresAll (take i texts) (take i states) held h kept kept_now) (sym same) all }
