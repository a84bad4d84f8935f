-- What is held when a round has used it, and what becomes of it when others are stored.
use Rattle.std.proofs.Common.{◌≡◌, ℕ, ◌||◌, inl, inr, Bool, true, false, cond, not, ◌&&◌, List, [], ◌∷◌, is_some, refl, sym, ap, ◌∙◌, subst}
use Rattle.std.specs.Cmp.Lexicographic.{nat_list_eq_equiv}
use Rattle.std.specs.Str.{bytes_eq}
use Rattle.cert_store.specs.Asking.{is_failed}
use Rattle.cert_store.specs.ChainMap.{listed}
use Rattle.cert_store.specs.Files.{Files}
use Rattle.cert_store.specs.Holding.{Chains, Holding, chain_of, touched}
use Rattle.cert_store.specs.Judged.{JudgedView}
use Rattle.cert_store.specs.Using.{AreAmong, HeldUnless, IsHeldSince, IsOnce, has, names}
use Rattle.verify_rules.specs.States.{State, have, long, no_chain, unread}
use Rattle.verify_service.specs.Kept.{KeepsChain, Kept, StoresChain, StoresJudged}
use Rattle.verify_service.specs.Needed.{is_needed, needed, touch_all}
use Rattle.verify_service.specs.RoundRead.{StoresAll}
use Rattle.verify_service.proofs.StoreAllLaws.{IsPair, one_capacity}
use Rattle.verify_service.proofs.UnheldLaws.{CacheLaws}
use Rattle.verify_service.proofs.TestLaws.{false_is_not_true, or_right, same_text}

-- ---- used

abbrev pub TouchedLaw : Type 0
TouchedLaw = (used : List (List ℕ)) (x5u : List ℕ) (entries : Chains) → is_some (chain_of x5u entries) ≡ true → IsHeldSince used x5u (touched x5u entries)

abbrev pub TouchedOthersLaw : Type 0
TouchedOthersLaw = (capacity : ℕ) (used : List (List ℕ)) (x5u other : List ℕ) (entries : Chains) → (is_some (chain_of x5u entries) ≡ true → has x5u used ≡ true)
    → HeldUnless capacity used other entries → HeldUnless capacity used other (touched x5u entries)

abbrev pub SameLaw : Type 0
SameLaw = (x5u other : List ℕ) (entries : Chains) → chain_of other (touched x5u entries) ≡ chain_of other entries

-- each of these that is held is one of those that are used
abbrev pub HeldAreUsed : Chains → List (List ℕ) → List (List ℕ) → Type 0
HeldAreUsed held texts used = (x : List ℕ) → has x texts ≡ true → is_some (chain_of x held) ≡ true → has x used ≡ true

next_used : SameLaw → (held : Chains) (x : List ℕ) (xs used : List (List ℕ)) → HeldAreUsed held (x ∷ xs) used → HeldAreUsed (touched x held) xs used
next_used same held x xs used all z given stands = all z (or_right (bytes_eq z x) (has z xs) given) (sym (ap is_some (same x z held)) ∙ stands)

pub touch_stays : SameLaw → TouchedOthersLaw → (capacity : ℕ) (used texts : List (List ℕ)) (held : Chains) → HeldAreUsed held texts used → (z : List ℕ) → HeldUnless capacity used z held
    → HeldUnless capacity used z (touch_all texts held)
touch_stays same others capacity used [] held all z so = so
touch_stays same others capacity used (x ∷ xs) held all z so =
    touch_stays same others capacity used xs (touched x held) (next_used same held x xs used all) z
    (others capacity used x z held (all x (ap (λ b. b || has x xs) (nat_list_eq_equiv.refl x))) so)

touch_by : SameLaw → TouchedLaw → TouchedOthersLaw → (capacity : ℕ) (used : List (List ℕ)) (x z : List ℕ) (xs : List (List ℕ)) (held : Chains) → HeldAreUsed held (x ∷ xs) used
    → is_some (chain_of z held) ≡ true → (has z xs ≡ true → HeldUnless capacity used z (touch_all xs (touched x held))) → (b : Bool) → bytes_eq z x ≡ b → (b || has z xs) ≡ true
    → HeldUnless capacity used z (touch_all xs (touched x held))
touch_by same first others capacity used x z xs held all stands rest true is given =
    touch_stays same others capacity used xs (touched x held) (next_used same held x xs used all) z
    (inl (subst (λ t. IsHeldSince used z (touched t held)) (same_text z x is) (first used z held stands)))
touch_by same first others capacity used x z xs held all stands rest false is given = rest given

pub touch_here : SameLaw → TouchedLaw → TouchedOthersLaw → (capacity : ℕ) (used texts : List (List ℕ)) (held : Chains) → HeldAreUsed held texts used → (z : List ℕ)
    → has z texts ≡ true → is_some (chain_of z held) ≡ true → HeldUnless capacity used z (touch_all texts held)
touch_here same first others capacity used [] held all z given stands = absurd (false_is_not_true given)
touch_here same first others capacity used (x ∷ xs) held all z given stands =
    touch_by same first others capacity used x z xs held all stands
    (λ more. touch_here same first others capacity used xs (touched x held) (next_used same held x xs used all) z more (ap is_some (same x z held) ∙ stands)) (bytes_eq z x) refl given

pub touch_chains : SameLaw → (texts : List (List ℕ)) (held : Chains) (z : List ℕ) → chain_of z (touch_all texts held) ≡ chain_of z held
touch_chains same [] held z = refl
touch_chains same (x ∷ xs) held z = touch_chains same xs (touched x held) z ∙ same x z held

-- ---- stored

kept_unless : (capacity : ℕ) (used : List (List ℕ)) (x z : List ℕ) (state : State) (held now : Holding) (kept kept_now : Kept) → KeepsChain x state held now kept kept_now
    → HeldUnless capacity used z held.entries → HeldUnless capacity used z now.entries
kept_unless capacity used x z state held now kept kept_now one so = subst (λ (h : Holding). HeldUnless capacity used z h.entries) (sym one.same) so

judged_unless : CacheLaws → (used : List (List ℕ)) (x z : List ℕ) (judged : JudgedView) (held now : Holding) (kept kept_now : Kept) (failed : Bool) → StoresJudged failed x judged held now kept kept_now
    → IsOnce (names held.entries) → has x used ≡ true → HeldUnless held.capacity used z held.entries → HeldUnless held.capacity used z now.entries
judged_unless laws used x z judged held now kept kept_now true one once among so = kept_unless held.capacity used x z (have judged) held now kept kept_now one so
judged_unless laws used x z judged held now kept kept_now false one once among so =
    subst (λ (h : Holding). HeldUnless held.capacity used z h.entries) (sym one.holds) (laws.put_others used x z judged held once among so)

one_unless : CacheLaws → (used : List (List ℕ)) (x z : List ℕ) (state : State) (held now : Holding) (kept kept_now : Kept) → StoresChain x state held now kept kept_now
    → IsOnce (names held.entries) → has x used ≡ true → HeldUnless held.capacity used z held.entries → HeldUnless held.capacity used z now.entries
one_unless laws used x z (have judged) held now kept kept_now one once among so = judged_unless laws used x z judged held now kept kept_now (is_failed judged.asked) one once among so
one_unless laws used x z no_chain held now kept kept_now one once among so = kept_unless held.capacity used x z no_chain held now kept kept_now one so
one_unless laws used x z long held now kept kept_now one once among so = kept_unless held.capacity used x z long held now kept kept_now one so
one_unless laws used x z unread held now kept kept_now one once among so = kept_unless held.capacity used x z unread held now kept kept_now one so

pub all_unless : CacheLaws → (used texts : List (List ℕ)) (states : List State) (held now : Holding) (kept kept_now : Kept) → AreAmong texts used → StoresAll texts states held now kept kept_now
    → (z : List ℕ) → HeldUnless held.capacity used z held.entries → HeldUnless now.capacity used z now.entries
all_unless laws used [] [] held now kept kept_now among all z so = subst (λ (h : Holding). HeldUnless h.capacity used z h.entries) (sym all.0) so
all_unless laws used [] (s ∷ ss) held now kept kept_now among all z so = absurd all
all_unless laws used (x ∷ xs) [] held now kept kept_now among all z so = absurd all
all_unless laws used (x ∷ xs) (s ∷ ss) held now kept kept_now among all z so =
    all_unless laws used xs ss all.next now all.kept_next kept_now (λ y is. among y (or_right (bytes_eq y x) (has y xs) is)) all.others z
    (subst (λ n. HeldUnless n used z all.next.entries) (sym (one_capacity x s held all.next kept all.kept_next all.stores))
    (one_unless laws used x z s held all.next kept all.kept_next all.stores all.once (among x (ap (λ b. b || has x xs) (nat_list_eq_equiv.refl x))) so))

-- a chain of which every question was answered is held from its own turn on
here_judged : CacheLaws → (used : List (List ℕ)) (x : List ℕ) (judged : JudgedView) (held now : Holding) (kept kept_now : Kept) (failed : Bool) → failed ≡ false
    → StoresJudged failed x judged held now kept kept_now → IsHeldSince used x now.entries
here_judged laws used x judged held now kept kept_now true answered one = absurd (false_is_not_true (sym answered))
here_judged laws used x judged held now kept kept_now false answered one =
    subst (λ (h : Holding). IsHeldSince used x h.entries) (sym one.holds) (laws.put used x judged held)

pub pair_held : CacheLaws → (used texts : List (List ℕ)) (states : List State) (held now : Holding) (kept kept_now : Kept) → AreAmong texts used → StoresAll texts states held now kept kept_now
    → (z : List ℕ) (judged : JudgedView) → IsPair z (have judged) texts states → is_failed judged.asked ≡ false → HeldUnless now.capacity used z now.entries
pair_held laws used [] states held now kept kept_now among all z judged p answered = absurd p
pair_held laws used (x ∷ xs) [] held now kept kept_now among all z judged p answered = absurd p
pair_held laws used (x ∷ xs) (s ∷ ss) held now kept kept_now among all z judged (inl here) answered =
    let one : StoresChain z (have judged) held all.next kept all.kept_next =
    subst (λ t. StoresChain t (have judged) held all.next kept all.kept_next) (sym here.0) (subst (λ (t : State). StoresChain x t held all.next kept all.kept_next) (sym here.1) all.stores) in
    all_unless laws used xs ss all.next now all.kept_next kept_now (λ y is. among y (or_right (bytes_eq y x) (has y xs) is)) all.others z
    (inl (here_judged laws used z judged held all.next kept all.kept_next (is_failed judged.asked) answered one))
pair_held laws used (x ∷ xs) (s ∷ ss) held now kept kept_now among all z judged (inr later) answered =
    pair_held laws used xs ss all.next now all.kept_next kept_now (λ y is. among y (or_right (bytes_eq y x) (has y xs) is)) all.others z judged later answered

-- ---- which texts are used

needed_by : (files : Files) (held : Chains) (x z : List ℕ) (xs : List (List ℕ)) (b : Bool) → is_needed files held x ≡ b
    → (has z (needed files held xs) ≡ true → (is_needed files held z ≡ true) × (has z xs ≡ true)) → has z (cond b (x ∷ needed files held xs) (needed files held xs)) ≡ true
    → (is_needed files held z ≡ true) × (has z (x ∷ xs) ≡ true)
needed_by files held x z xs false is law given = let so = law given in (so.0, or_right (bytes_eq z x) (has z xs) so.1)
needed_by files held x z xs true is law given = by (bytes_eq z x) refl given
  where
    by : (c : Bool) → bytes_eq z x ≡ c → (c || has z (needed files held xs)) ≡ true → (is_needed files held z ≡ true) × (has z (x ∷ xs) ≡ true)
    by true same more = (ap (is_needed files held) (same_text z x same) ∙ is, ap (λ c. c || has z xs) same)
    by false same more = let so = law more in (so.0, or_right (bytes_eq z x) (has z xs) so.1)

-- a text that is needed is one of those that are named
pub needed_named : (files : Files) (held : Chains) (texts : List (List ℕ)) (z : List ℕ) → has z (needed files held texts) ≡ true → (is_needed files held z ≡ true) × (has z texts ≡ true)
needed_named files held [] z given = absurd (false_is_not_true given)
needed_named files held (x ∷ xs) z given = needed_by files held x z xs (is_needed files held x) refl (needed_named files held xs z) given

and_parts : (b c : Bool) → (b && c) ≡ true → (b ≡ true) × (c ≡ true)
and_parts true c is = (refl, is)
and_parts false c is = absurd (false_is_not_true is)

not_true : (b : Bool) → not b ≡ true → b ≡ false
not_true true is = absurd (false_is_not_true is)
not_true false is = refl

pub needed_parts : (files : Files) (held : Chains) (z : List ℕ) → is_needed files held z ≡ true → (is_some (listed files z) ≡ true) × (is_some (chain_of z held) ≡ false)
needed_parts files held z is =
    let parts = and_parts (is_some (listed files z)) (not (is_some (chain_of z held))) is in
    (parts.0, not_true (is_some (chain_of z held)) parts.1)

-- a listed text that isn't held is needed, if it is named
pub named_needed : (files : Files) (held : Chains) (texts : List (List ℕ)) (z : List ℕ) → has z texts ≡ true → is_needed files held z ≡ true → has z (needed files held texts) ≡ true
named_needed files held [] z given is = absurd (false_is_not_true given)
named_needed files held (x ∷ xs) z given is = in_both files held x z xs is (named_needed files held xs z) (is_needed files held x) refl (bytes_eq z x) refl given
  where
    in_both : (files : Files) (held : Chains) (x z : List ℕ) (xs : List (List ℕ)) → is_needed files held z ≡ true → (has z xs ≡ true → is_needed files held z ≡ true → has z (needed files held xs) ≡ true)
        → (b : Bool) → is_needed files held x ≡ b → (c : Bool) → bytes_eq z x ≡ c → (c || has z xs) ≡ true → has z (cond b (x ∷ needed files held xs) (needed files held xs)) ≡ true
    in_both files held x z xs is law true here true same given = ap (λ c. c || has z (needed files held xs)) same
    in_both files held x z xs is law true here false same given = or_right (bytes_eq z x) (has z (needed files held xs)) (law given is)
    in_both files held x z xs is law false here true same given = absurd (false_is_not_true (sym here ∙ ap (is_needed files held) (sym (same_text z x same)) ∙ is))
    in_both files held x z xs is law false here false same given = law given is
