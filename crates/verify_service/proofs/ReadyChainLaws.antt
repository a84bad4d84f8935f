-- The chains of a round, from its steps.
use Rattle.std.proofs.Common.{◌≡◌, ℕ, zero, suc, ◌<◌, List, [], ◌∷◌, take, Option, Some, None, sym, ◌∙◌, subst}
use Rattle.cert_store.specs.Holding.{Chains, Holding, chain_of}
use Rattle.cert_store.specs.Rules.{Says}
use Rattle.cert_store.specs.declared.world.World.{World as Materials}
use Rattle.stir_outside.specs.Files.{Counts, Files}
use Rattle.verify_rules.specs.States.{State}
use Rattle.verify_service.specs.Judging.{EachPair}
use Rattle.verify_service.specs.Kept.{Kept}
use Rattle.verify_service.specs.RightChains.{AreRightHeld}
use Rattle.verify_service.specs.RoundRead.{HasAskedOwn, IsKnownRight, KnownBy, RoundReads, StoresAll, StoresSome, texts_of, used_in}
use Rattle.verify_service.specs.declared.screening.ReadyCall.{ReadyCall}
use Rattle.verify_service.proofs.StoreAllLaws.{RightLaw, all_right}

-- ---- right

pub right_same : (told : Option Files) (materials : Materials) (says : Says) (held now : Chains) (kept : Kept) → ((x : List ℕ) → chain_of x now ≡ chain_of x held)
    → AreRightHeld told materials says held kept → AreRightHeld told materials says now kept
right_same told materials says held now kept same right = record { cached = λ x judged at. right.cached x judged (sym (same x) ∙ at); others = right.others }

none_is_some : {s : State} → ◌≡◌ {A = Option State} None (Some s) → ⊥
none_is_some e = cc

pub right_alone : (told : Option Files) (materials : Materials) (says : Says) (held : Chains) (kept : Kept) → AreRightHeld told materials says held kept → AreRightHeld told materials says held []
right_alone told materials says held kept right = record { cached = right.cached; others = λ x state at. absurd (none_is_some at) }

each_take : {A B : Type 0} → (R : A → B → Type 0) (n : ℕ) (xs : List A) (ys : List B) → EachPair R xs ys → EachPair R (take n xs) (take n ys)
each_take R zero xs ys each = tt
each_take R (suc n) [] [] each = tt
each_take R (suc n) [] (y ∷ ys) each = absurd each
each_take R (suc n) (x ∷ xs) [] each = absurd each
each_take R (suc n) (x ∷ xs) (y ∷ ys) each = (each.0, each_take R n xs ys each.1)

-- the first of them were stored, as the store was called
pub some_right : RightLaw → (told : Option Files) (materials : Materials) (says : Says) (texts : List (List ℕ)) (states handed : List State) (held mid now : Holding) (kept : Kept)
    → handed ≡ states → kept ≡ [] → ((x : List ℕ) → chain_of x mid.entries ≡ chain_of x held.entries) → EachPair (IsKnownRight told materials says) texts states
    → StoresSome texts handed mid now kept → AreRightHeld told materials says held.entries [] → AreRightHeld told materials says now.entries []
some_right law told materials says texts states handed held mid now kept same none looked each some right =
    let here : AreRightHeld told materials says mid.entries kept =
    subst (λ (k : Kept). AreRightHeld told materials says mid.entries k) (sym none) (right_same told materials says held.entries mid.entries [] looked right) in
    right_alone told materials says now.entries some.kept_now
    (all_right law told materials says (take some.count texts) (take some.count handed) mid now kept some.kept_now
    (each_take (IsKnownRight told materials says) some.count texts handed (subst (λ (ss : List State). EachPair (IsKnownRight told materials says) texts ss) (sym same) each)) some.stores here)

-- ---- all that is known

pub round_reads : (told : Option Files) (materials : Materials) (says : Says) (calls : List ReadyCall) (counts counts_now : Counts) (Own : List State → Type 0) (held mid now : Holding)
    (kept kept_now : Kept) (texts : List (List ℕ)) (states handed : List State) → texts ≡ texts_of materials held.entries calls → mid ≡ used_in calls held → handed ≡ states → kept ≡ []
    → KnownBy told materials says texts counts counts_now Own states → StoresAll texts handed mid now kept kept_now
    → RoundReads told materials says calls counts counts_now Own held now kept_now
round_reads told materials says calls counts counts_now Own held mid now kept kept_now texts states handed are used same none known stores = record {
  states = states;
  known = subst (λ (ts : List (List ℕ)). KnownBy told materials says ts counts counts_now Own states) are known;
  stores = subst (λ (ts : List (List ℕ)). StoresAll ts states (used_in calls held) now [] kept_now) are
      (subst (λ (h : Holding). StoresAll texts states h now [] kept_now) used
      (subst (λ (k : Kept). StoresAll texts states mid now k kept_now) none (subst (λ (ss : List State). StoresAll texts ss mid now kept kept_now) same stores)));
}

-- what a worker was asked is what its provider was, which stays
pub own_after : {X : Type 0} → (asks faults : X → ℕ) (old mid now : ℕ → X) (count : ℕ) (states : List State) → ((w : ℕ) → w < count → now w ≡ mid w)
    → ((w : ℕ) → w < count → HasAskedOwn w count (asks (old w)) (asks (mid w)) (faults (old w)) (faults (mid w)) states) → (w : ℕ) → w < count
    → HasAskedOwn w count (asks (old w)) (asks (now w)) (faults (old w)) (faults (now w)) states
own_after asks faults old mid now count states same own w less =
    subst (λ x. HasAskedOwn w count (asks (old w)) (asks x) (faults (old w)) (faults x) states) (sym (same w less)) (own w less)
