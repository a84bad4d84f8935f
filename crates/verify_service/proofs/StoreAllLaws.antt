-- Chains that are stored in turn: what is right stays right, what is there stays there, and what is kept is one of them.
use Rattle.std.proofs.Common.{◌≡◌, ℕ, ◌||◌, ◌⊎◌, inl, inr, Bool, true, false, cond, List, [], ◌∷◌, ◌++◌, filter, length, Option, Some, None, refl, sym, ap, ◌∙◌, subst, arith}
use Rattle.std.proofs.lemmas.Option.{same_Some}
use Rattle.std.specs.Cmp.Lexicographic.{nat_list_eq_equiv}
use Rattle.std.specs.Str.{bytes_eq}
use Rattle.cert_store.specs.Asking.{is_failed}
use Rattle.cert_store.specs.Holding.{Holding}
use Rattle.cert_store.specs.Judged.{JudgedView}
use Rattle.cert_store.specs.Rules.{Says}
use Rattle.cert_store.specs.Using.{AreAmong, IsOnce, has, names}
use Rattle.cert_store.specs.declared.world.World.{World as Materials}
use Rattle.stir_outside.specs.Files.{Files}
use Rattle.verify_rules.specs.States.{State, have, long, no_chain, unread}
use Rattle.call_judging.specs.Chains.{IsRightWhere}
use Rattle.verify_service.specs.Judging.{EachPair}
use Rattle.verify_service.specs.Kept.{KeepsChain, Kept, StoresChain, StoresJudged, kept_state}
use Rattle.verify_service.specs.RightChains.{AreRightHeld, FailAtQuestions, IsThereUnless}
use Rattle.verify_service.specs.RoundRead.{IsKnownRight, StoresAll, StoresFirst}
use Rattle.verify_service.proofs.TestLaws.{false_is_not_true, or_right, same_text}

-- ---- the capacity stays

judged_capacity : (x5u : List ℕ) (judged : JudgedView) (held now : Holding) (kept kept_now : Kept) (failed : Bool) → StoresJudged failed x5u judged held now kept kept_now
    → now.capacity ≡ held.capacity
judged_capacity x5u judged held now kept kept_now true one = ap (λ (h : Holding). h.capacity) one.same
judged_capacity x5u judged held now kept kept_now false one = ap (λ (h : Holding). h.capacity) one.holds

pub one_capacity : (x5u : List ℕ) (state : State) (held now : Holding) (kept kept_now : Kept) → StoresChain x5u state held now kept kept_now → now.capacity ≡ held.capacity
one_capacity x5u (have judged) held now kept kept_now one = judged_capacity x5u judged held now kept kept_now (is_failed judged.asked) one
one_capacity x5u no_chain held now kept kept_now one = ap (λ (h : Holding). h.capacity) one.same
one_capacity x5u long held now kept kept_now one = ap (λ (h : Holding). h.capacity) one.same
one_capacity x5u unread held now kept kept_now one = ap (λ (h : Holding). h.capacity) one.same

pub all_capacity : (texts : List (List ℕ)) (states : List State) (held now : Holding) (kept kept_now : Kept) → StoresAll texts states held now kept kept_now → now.capacity ≡ held.capacity
all_capacity [] [] held now kept kept_now all = ap (λ (h : Holding). h.capacity) all.0
all_capacity [] (s ∷ ss) held now kept kept_now all = absurd all
all_capacity (x ∷ xs) [] held now kept kept_now all = absurd all
all_capacity (x ∷ xs) (s ∷ ss) held now kept kept_now all =
    all_capacity xs ss all.next now all.kept_next kept_now all.others ∙ one_capacity x s held all.next kept all.kept_next all.stores

-- ---- one more

pub stores_more : (texts : List (List ℕ)) (states : List State) (x5u : List ℕ) (state : State) (held mid now : Holding) (kept kept_mid kept_now : Kept)
    → StoresAll texts states held mid kept kept_mid → IsOnce (names mid.entries) → StoresChain x5u state mid now kept_mid kept_now
    → StoresAll (texts ++ x5u ∷ []) (states ++ state ∷ []) held now kept kept_now
stores_more [] [] x5u state held mid now kept kept_mid kept_now all once one =
    let first : StoresChain x5u state held now kept kept_now =
    subst (λ (h : Holding). StoresChain x5u state h now kept kept_now) all.0 (subst (λ (k : Kept). StoresChain x5u state mid now k kept_now) all.1 one) in
    record { once = subst (λ (h : Holding). IsOnce (names h.entries)) all.0 once; next = now; kept_next = kept_now; stores = first; others = (refl, refl) }
stores_more [] (s ∷ ss) x5u state held mid now kept kept_mid kept_now all once one = absurd all
stores_more (x ∷ xs) [] x5u state held mid now kept kept_mid kept_now all once one = absurd all
stores_more (x ∷ xs) (s ∷ ss) x5u state held mid now kept kept_mid kept_now all once one = record {
  once = all.once;
  next = all.next;
  kept_next = all.kept_next;
  stores = all.stores;
  others = stores_more xs ss x5u state all.next mid now all.kept_next kept_mid kept_now all.others once one;
}

-- ---- right

abbrev pub RightLaw : Type 0
RightLaw = (told : Option Files) (materials : Materials) (says : Says) (x5u : List ℕ) (state : State) (held held_now : Holding) (kept kept_now : Kept)
    → StoresChain x5u state held held_now kept kept_now → IsRightWhere told materials says x5u state
    → AreRightHeld told materials says held.entries kept → AreRightHeld told materials says held_now.entries kept_now

pub all_right : RightLaw → (told : Option Files) (materials : Materials) (says : Says) (texts : List (List ℕ)) (states : List State) (held now : Holding) (kept kept_now : Kept)
    → EachPair (IsKnownRight told materials says) texts states → StoresAll texts states held now kept kept_now → AreRightHeld told materials says held.entries kept
    → AreRightHeld told materials says now.entries kept_now
all_right law told materials says [] [] held now kept kept_now each all right =
    subst (λ (h : Holding). AreRightHeld told materials says h.entries kept_now) (sym all.0) (subst (λ (k : Kept). AreRightHeld told materials says held.entries k) (sym all.1) right)
all_right law told materials says [] (s ∷ ss) held now kept kept_now each all right = absurd all
all_right law told materials says (x ∷ xs) [] held now kept kept_now each all right = absurd all
all_right law told materials says (x ∷ xs) (s ∷ ss) held now kept kept_now each all right =
    all_right law told materials says xs ss all.next now all.kept_next kept_now each.1 all.others
    (law told materials says x s held all.next kept all.kept_next all.stores each.0.right right)

-- ---- there

abbrev pub HereLaw : Type 0
HereLaw = (used : List (List ℕ)) (x5u : List ℕ) (state : State) (held held_now : Holding) (kept kept_now : Kept)
    → StoresChain x5u state held held_now kept kept_now → IsThereUnless held.capacity used held_now.entries kept_now x5u

abbrev pub OthersLaw : Type 0
OthersLaw = (used : List (List ℕ)) (x5u other : List ℕ) (state : State) (held held_now : Holding) (kept kept_now : Kept) → IsOnce (names held.entries)
    → has x5u used ≡ true → StoresChain x5u state held held_now kept kept_now → IsThereUnless held.capacity used held.entries kept other
    → IsThereUnless held.capacity used held_now.entries kept_now other

first_among : (used : List (List ℕ)) (x : List ℕ) (xs : List (List ℕ)) → AreAmong (x ∷ xs) used → has x used ≡ true
first_among used x xs among = among x (ap (λ b. b || has x xs) (nat_list_eq_equiv.refl x))

others_among : (used : List (List ℕ)) (x : List ℕ) (xs : List (List ℕ)) → AreAmong (x ∷ xs) used → AreAmong xs used
others_among used x xs among z is = among z (or_right (bytes_eq z x) (has z xs) is)

pub all_others : OthersLaw → (used texts : List (List ℕ)) (states : List State) (held now : Holding) (kept kept_now : Kept) → AreAmong texts used → StoresAll texts states held now kept kept_now
    → (other : List ℕ) → IsThereUnless held.capacity used held.entries kept other → IsThereUnless now.capacity used now.entries kept_now other
all_others law used [] [] held now kept kept_now among all other so =
    subst (λ (h : Holding). IsThereUnless h.capacity used h.entries kept_now other) (sym all.0)
    (subst (λ (k : Kept). IsThereUnless held.capacity used held.entries k other) (sym all.1) so)
all_others law used [] (s ∷ ss) held now kept kept_now among all other so = absurd all
all_others law used (x ∷ xs) [] held now kept kept_now among all other so = absurd all
all_others law used (x ∷ xs) (s ∷ ss) held now kept kept_now among all other so =
    all_others law used xs ss all.next now all.kept_next kept_now (others_among used x xs among) all.others other
    (subst (λ n. IsThereUnless n used all.next.entries all.kept_next other) (sym (one_capacity x s held all.next kept all.kept_next all.stores))
    (law used x other s held all.next kept all.kept_next all.once (first_among used x xs among) all.stores so))

here_by : HereLaw → OthersLaw → (used : List (List ℕ)) (x other : List ℕ) (xs : List (List ℕ)) (s : State) (ss : List State) (held now : Holding) (kept kept_now : Kept)
    → AreAmong xs used → (all : StoresFirst x s (λ next kept_next. StoresAll xs ss next now kept_next kept_now) held kept)
    → (has other xs ≡ true → IsThereUnless now.capacity used now.entries kept_now other) → (b : Bool) → bytes_eq other x ≡ b → (b || has other xs) ≡ true
    → IsThereUnless now.capacity used now.entries kept_now other
here_by here law used x other xs s ss held now kept kept_now among all rest true same is =
    all_others law used xs ss all.next now all.kept_next kept_now among all.others other
    (subst (λ (y : List ℕ). IsThereUnless all.next.capacity used all.next.entries all.kept_next y) (sym (same_text other x same))
    (subst (λ n. IsThereUnless n used all.next.entries all.kept_next x) (sym (one_capacity x s held all.next kept all.kept_next all.stores))
    (here used x s held all.next kept all.kept_next all.stores)))
here_by here law used x other xs s ss held now kept kept_now among all rest false same is = rest is

pub all_here : HereLaw → OthersLaw → (used texts : List (List ℕ)) (states : List State) (held now : Holding) (kept kept_now : Kept) → AreAmong texts used
    → StoresAll texts states held now kept kept_now → (other : List ℕ) → has other texts ≡ true → IsThereUnless now.capacity used now.entries kept_now other
all_here here law used [] [] held now kept kept_now among all other is = absurd (false_is_not_true is)
all_here here law used [] (s ∷ ss) held now kept kept_now among all other is = absurd all
all_here here law used (x ∷ xs) [] held now kept kept_now among all other is = absurd all
all_here here law used (x ∷ xs) (s ∷ ss) held now kept kept_now among all other is =
    here_by here law used x other xs s ss held now kept kept_now (others_among used x xs among) all
    (λ more. all_here here law used xs ss all.next now all.kept_next kept_now (others_among used x xs among) all.others other more) (bytes_eq other x) refl is

-- ---- what is kept is one of them

-- this text has this state
abbrev pub IsPair : List ℕ → State → List (List ℕ) → List State → Type 0
IsPair x5u state [] states = ⊥
IsPair x5u state (x ∷ xs) [] = ⊥
IsPair x5u state (x ∷ xs) (s ∷ ss) = ((x5u ≡ x) × (state ≡ s)) ⊎ IsPair x5u state xs ss

keeps_by : (x t : List ℕ) (state s : State) (kept : Kept) (b : Bool) → bytes_eq t x ≡ b → cond b (Some state) (kept_state x kept) ≡ Some s
    → ((x ≡ t) × (s ≡ state)) ⊎ (kept_state x kept ≡ Some s)
keeps_by x t state s kept true same is = inl (sym (same_text t x same), sym (same_Some state s is))
keeps_by x t state s kept false same is = inr is

kept_one : (x t : List ℕ) (state s : State) (held now : Holding) (kept kept_now : Kept) → KeepsChain t state held now kept kept_now → kept_state x kept_now ≡ Some s
    → ((x ≡ t) × (s ≡ state)) ⊎ (kept_state x kept ≡ Some s)
kept_one x t state s held now kept kept_now one is = keeps_by x t state s kept (bytes_eq t x) refl (sym (one.keeps x) ∙ is)

judged_kept : (x t : List ℕ) (judged : JudgedView) (s : State) (held now : Holding) (kept kept_now : Kept) (failed : Bool) → StoresJudged failed t judged held now kept kept_now
    → kept_state x kept_now ≡ Some s → ((x ≡ t) × (s ≡ have judged)) ⊎ (kept_state x kept ≡ Some s)
judged_kept x t judged s held now kept kept_now true one is = kept_one x t (have judged) s held now kept kept_now one is
judged_kept x t judged s held now kept kept_now false one is = inr (sym (ap (kept_state x) one.same) ∙ is)

one_kept : (x t : List ℕ) (state s : State) (held now : Holding) (kept kept_now : Kept) → StoresChain t state held now kept kept_now → kept_state x kept_now ≡ Some s
    → ((x ≡ t) × (s ≡ state)) ⊎ (kept_state x kept ≡ Some s)
one_kept x t (have judged) s held now kept kept_now one is = judged_kept x t judged s held now kept kept_now (is_failed judged.asked) one is
one_kept x t no_chain s held now kept kept_now one is = kept_one x t no_chain s held now kept kept_now one is
one_kept x t long s held now kept kept_now one is = kept_one x t long s held now kept kept_now one is
one_kept x t unread s held now kept kept_now one is = kept_one x t unread s held now kept kept_now one is

pub all_kept : (texts : List (List ℕ)) (states : List State) (held now : Holding) (kept kept_now : Kept) → StoresAll texts states held now kept kept_now → (x : List ℕ) (s : State)
    → kept_state x kept_now ≡ Some s → IsPair x s texts states ⊎ (kept_state x kept ≡ Some s)
all_kept [] [] held now kept kept_now all x s is = inr (sym (ap (kept_state x) all.1) ∙ is)
all_kept [] (t ∷ ss) held now kept kept_now all x s is = absurd all
all_kept (t ∷ ts) [] held now kept kept_now all x s is = absurd all
all_kept (t ∷ ts) (u ∷ us) held now kept kept_now all x s is = elim (all_kept ts us all.next now all.kept_next kept_now all.others x s is) [
  | inl later ↦ inl (inr later)
  | inr before ↦ elim (one_kept x t u s held all.next kept all.kept_next all.stores before) [
    | inl here ↦ inl (inl here)
    | inr first ↦ inr first
  ]
]

-- of the round, which has kept none before
none_is_some : {s : State} → ◌≡◌ {A = Option State} None (Some s) → ⊥
none_is_some e = cc

pub round_kept : (texts : List (List ℕ)) (states : List State) (held now : Holding) (kept : Kept) → StoresAll texts states held now [] kept → (x : List ℕ) (s : State)
    → kept_state x kept ≡ Some s → IsPair x s texts states
round_kept texts states held now kept all x s is = elim (all_kept texts states held now [] kept all x s is) [
  | inl here ↦ here
  | inr none ↦ absurd (none_is_some none)
]

pub pair_known : (R : List ℕ → State → Type 0) (texts : List (List ℕ)) (states : List State) (x : List ℕ) (s : State) → EachPair R texts states → IsPair x s texts states → R x s
pair_known R [] [] x s each p = absurd p
pair_known R [] (u ∷ us) x s each p = absurd p
pair_known R (t ∷ ts) [] x s each p = absurd p
pair_known R (t ∷ ts) (u ∷ us) x s each (inl here) = subst (λ y. R y s) (sym here.0) (subst (R t) (sym here.1) each.0)
pair_known R (t ∷ ts) (u ∷ us) x s each (inr later) = pair_known R ts us x s each.1 later

pub kept_questions : (told : Option Files) (materials : Materials) (says : Says) (texts : List (List ℕ)) (states : List State) (held now : Holding) (kept : Kept)
    → EachPair (IsKnownRight told materials says) texts states → StoresAll texts states held now [] kept → FailAtQuestions kept
kept_questions told materials says texts states held now kept each all x judged is =
    (pair_known (IsKnownRight told materials says) texts states x (have judged) each (round_kept texts states held now kept all x (have judged) is)).question

-- ---- the texts whose state is so

abbrev pub picked : (State → Bool) → List (List ℕ) → List State → List (List ℕ)
picked test [] states = []
picked test (x ∷ xs) [] = []
picked test (x ∷ xs) (s ∷ ss) = cond (test s) (x ∷ picked test xs ss) (picked test xs ss)

picked_by : (b : Bool) (x : List ℕ) (s : State) (xs : List (List ℕ)) (ss : List State) → length xs ≡ length ss → length (cond b (x ∷ xs) xs) ≡ length (cond b (s ∷ ss) ss)
picked_by true x s xs ss same = omega arith
picked_by false x s xs ss same = same

pub picked_count : (R : List ℕ → State → Type 0) (test : State → Bool) (texts : List (List ℕ)) (states : List State) → EachPair R texts states
    → length (picked test texts states) ≡ length (filter test states)
picked_count R test [] [] each = refl
picked_count R test [] (s ∷ ss) each = absurd each
picked_count R test (x ∷ xs) [] each = absurd each
picked_count R test (x ∷ xs) (s ∷ ss) each = picked_by (test s) x s (picked test xs ss) (filter test ss) (picked_count R test xs ss each.1)

picked_here : (z x : List ℕ) (xs : List (List ℕ)) (b : Bool) → b ≡ true → z ≡ x → has z (cond b (x ∷ xs) xs) ≡ true
picked_here z x xs b is same = ap (λ c. has z (cond c (x ∷ xs) xs)) is ∙ ap (λ t. has t (x ∷ xs)) same ∙ ap (λ c. c || has x xs) (nat_list_eq_equiv.refl x)

picked_later : (z x : List ℕ) (xs : List (List ℕ)) (b : Bool) → has z xs ≡ true → has z (cond b (x ∷ xs) xs) ≡ true
picked_later z x xs true is = or_right (bytes_eq z x) (has z xs) is
picked_later z x xs false is = is

pub picked_has : (test : State → Bool) (texts : List (List ℕ)) (states : List State) (x : List ℕ) (s : State) → IsPair x s texts states → test s ≡ true → has x (picked test texts states) ≡ true
picked_has test [] states x s p is = absurd p
picked_has test (t ∷ ts) [] x s p is = absurd p
picked_has test (t ∷ ts) (u ∷ us) x s (inl here) is = picked_here x t (picked test ts us) (test u) (sym (ap test here.1) ∙ is) here.0
picked_has test (t ∷ ts) (u ∷ us) x s (inr later) is = picked_later x t (picked test ts us) (test u) (picked_has test ts us x s later is)
