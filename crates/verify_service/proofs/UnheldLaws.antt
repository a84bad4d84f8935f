-- A file that is read is one of texts whose chain is held from then on, if all texts are no more than the cache may hold.
use Rattle.std.proofs.Common.{◌≡◌, ℕ, suc, ◌+◌, ◌≤◌, ◌||◌, ◌⊎◌, inl, inr, Bool, true, false, cond, not, List, [], ◌∷◌, filter, length, is_some, Option, Some, None, refl, sym, ap, ◌∙◌, subst, arith}
use Rattle.std.specs.Cmp.Lexicographic.{nat_list_eq_equiv}
use Rattle.std.specs.List.{list_any}
use Rattle.std.specs.Str.{bytes_eq}
use Rattle.cert_store.specs.Asking.{is_failed}
use Rattle.cert_store.specs.Holding.{Chains, Holding, chain_of, put_in}
use Rattle.cert_store.specs.Judged.{JudgedView}
use Rattle.cert_store.specs.Using.{AreAmong, HeldUnless, IsHeldSince, IsOnce, has, names}
use Rattle.verify_rules.specs.States.{State, have, long, no_chain, unread}
use Rattle.call_judging.specs.Chains.{is_unasked}
use Rattle.verify_service.specs.Kept.{KeepsChain, Kept, StoresChain, StoresJudged}
use Rattle.verify_service.specs.Reads.{unheld}
use Rattle.verify_service.specs.RoundRead.{StoresAll, is_judged}
use Rattle.verify_service.proofs.StoreAllLaws.{one_capacity}
use Rattle.verify_service.proofs.TestLaws.{false_is_not_true, or_right, same_text}

-- ---- counted

less_by : (b c : Bool) (x : List ℕ) (ps qs : List (List ℕ)) → (c ≡ true → b ≡ true) → length qs ≤ length ps → length (cond c (x ∷ qs) qs) ≤ length (cond b (x ∷ ps) ps)
less_by true true x ps qs law most = omega arith
less_by true false x ps qs law most = omega arith
less_by false true x ps qs law most = absurd (false_is_not_true (law refl))
less_by false false x ps qs law most = most

fewer : (p q : List ℕ → Bool) → ((z : List ℕ) → q z ≡ true → p z ≡ true) → (xs : List (List ℕ)) → length (filter q xs) ≤ length (filter p xs)
fewer p q law [] = omega arith
fewer p q law (x ∷ xs) = less_by (p x) (q x) x (filter p xs) (filter q xs) (law x) (fewer p q law xs)

one_by : (b c : Bool) (x : List ℕ) (ps qs : List (List ℕ)) → b ≡ true → c ≡ false → length qs ≤ length ps → suc (length (cond c (x ∷ qs) qs)) ≤ length (cond b (x ∷ ps) ps)
one_by true true x ps qs is none most = absurd (false_is_not_true (sym none))
one_by true false x ps qs is none most = omega arith
one_by false c x ps qs is none most = absurd (false_is_not_true is)

step_by : (b c : Bool) (x : List ℕ) (ps qs : List (List ℕ)) → (c ≡ true → b ≡ true) → suc (length qs) ≤ length ps → suc (length (cond c (x ∷ qs) qs)) ≤ length (cond b (x ∷ ps) ps)
step_by true true x ps qs law most = omega arith
step_by true false x ps qs law most = omega arith
step_by false true x ps qs law most = absurd (false_is_not_true (law refl))
step_by false false x ps qs law most = most

one_fewer_by : (p q : List ℕ → Bool) → ((z : List ℕ) → q z ≡ true → p z ≡ true) → (y x : List ℕ) (xs : List (List ℕ)) → p y ≡ true → q y ≡ false
    → (has y xs ≡ true → suc (length (filter q xs)) ≤ length (filter p xs)) → (b : Bool) → bytes_eq y x ≡ b → (b || has y xs) ≡ true
    → suc (length (cond (q x) (x ∷ filter q xs) (filter q xs))) ≤ length (cond (p x) (x ∷ filter p xs) (filter p xs))
one_fewer_by p q law y x xs is none more true same given =
    let t : y ≡ x = same_text y x same in
    one_by (p x) (q x) x (filter p xs) (filter q xs) (sym (ap p t) ∙ is) (sym (ap q t) ∙ none) (fewer p q law xs)
one_fewer_by p q law y x xs is none more false same given = step_by (p x) (q x) x (filter p xs) (filter q xs) (law x) (more given)

one_fewer : (p q : List ℕ → Bool) → ((z : List ℕ) → q z ≡ true → p z ≡ true) → (y : List ℕ) (xs : List (List ℕ)) → p y ≡ true → q y ≡ false → has y xs ≡ true
    → suc (length (filter q xs)) ≤ length (filter p xs)
one_fewer p q law y [] is none given = absurd (false_is_not_true given)
one_fewer p q law y (x ∷ xs) is none given = one_fewer_by p q law y x xs is none (one_fewer p q law y xs is none) (bytes_eq y x) refl given

not_of : (b c : Bool) → (b ≡ true → c ≡ true) → not c ≡ true → not b ≡ true
not_of true true law is = is
not_of true false law is = absurd (false_is_not_true (law refl))
not_of false c law is = refl

-- what is held stays held, and one more is
pub unheld_one : (all held now : List (List ℕ)) (x : List ℕ) → AreAmong held now → has x held ≡ false → has x now ≡ true → has x all ≡ true → suc (unheld all now) ≤ unheld all held
unheld_one all held now x stay none is given =
    one_fewer (λ z. not (has z held)) (λ z. not (has z now)) (λ z. not_of (has z held) (has z now) (stay z)) x all (ap not none) (ap not is) given

-- ---- the laws of the cache

abbrev pub NamedLaw : Type 0
NamedLaw = (x5u : List ℕ) (entries : Chains) → has x5u (names entries) ≡ is_some (chain_of x5u entries)

abbrev pub FoundLaw : Type 0
FoundLaw = (x5u other : List ℕ) (judged found : JudgedView) (holding : Holding) → chain_of other (put_in x5u judged holding) ≡ Some found
    → ((other ≡ x5u) × (found ≡ judged)) ⊎ (chain_of other holding.entries ≡ Some found)

abbrev pub SinceLaw : Type 0
SinceLaw = (x5u : List ℕ) (entries : Chains) → is_some (chain_of x5u entries) ≡ true → IsHeldSince (names entries) x5u entries

abbrev pub PutLaw : Type 0
PutLaw = (used : List (List ℕ)) (x5u : List ℕ) (judged : JudgedView) (holding : Holding) → IsHeldSince used x5u (put_in x5u judged holding)

abbrev pub PutOthersLaw : Type 0
PutOthersLaw = (used : List (List ℕ)) (x5u other : List ℕ) (judged : JudgedView) (holding : Holding) → IsOnce (names holding.entries) → has x5u used ≡ true
    → HeldUnless holding.capacity used other holding.entries → HeldUnless holding.capacity used other (put_in x5u judged holding)

abbrev pub MoreLaw : Type 0
MoreLaw = (capacity : ℕ) (used others : List (List ℕ)) (x5u : List ℕ) (entries : Chains) → AreAmong used others → HeldUnless capacity used x5u entries → HeldUnless capacity others x5u entries

abbrev pub FewLaw : Type 0
FewLaw = (capacity : ℕ) (used : List (List ℕ)) (x5u : List ℕ) (entries : Chains) → has x5u used ≡ true → length used ≤ capacity → HeldUnless capacity used x5u entries
    → is_some (chain_of x5u entries) ≡ true

pub record CacheLaws : Type 0 where
  pub named : NamedLaw
  pub found : FoundLaw
  pub since : SinceLaw
  pub put : PutLaw
  pub put_others : PutOthersLaw
  pub more : MoreLaw
  pub few : FewLaw

-- ---- a chain is put

some_of : (o : Option JudgedView) → is_some o ≡ true → (judged : JudgedView) × (o ≡ Some judged)
some_of None is = absurd (false_is_not_true is)
some_of (Some judged) is = (judged, refl)

is_held : (judged : JudgedView) (o : Option JudgedView) → o ≡ Some judged → is_some o ≡ true
is_held judged o is = ap is_some is

-- what is held then was held before, or is it
pub put_named : CacheLaws → (x z : List ℕ) (judged : JudgedView) (held : Holding) → has z (names (put_in x judged held)) ≡ true → (z ≡ x) ⊎ (has z (names held.entries) ≡ true)
put_named laws x z judged held is =
    let one = some_of (chain_of z (put_in x judged held)) (sym (laws.named z (put_in x judged held)) ∙ is) in
    elim (laws.found x z judged one.0 held one.1) [
      | inl here ↦ inl here.0
      | inr before ↦ inr (laws.named z held.entries ∙ is_held one.0 (chain_of z held.entries) before)
    ]

put_stay : CacheLaws → (all : List (List ℕ)) (x : List ℕ) (judged : JudgedView) (held : Holding) → IsOnce (names held.entries) → has x all ≡ true → AreAmong (names held.entries) all
    → length all ≤ held.capacity → AreAmong (names held.entries) (names (put_in x judged held))
put_stay laws all x judged held once given among few z is =
    let here : is_some (chain_of z held.entries) ≡ true = sym (laws.named z held.entries) ∙ is in
    laws.named z (put_in x judged held)
    ∙ laws.few held.capacity all z (put_in x judged held) (among z is) few
    (laws.put_others all x z judged held once given (laws.more held.capacity (names held.entries) all z held.entries among (inl (laws.since z held.entries here))))

put_among : CacheLaws → (all : List (List ℕ)) (x : List ℕ) (judged : JudgedView) (held : Holding) → has x all ≡ true → AreAmong (names held.entries) all
    → AreAmong (names (put_in x judged held)) all
put_among laws all x judged held given among z is = elim (put_named laws x z judged held is) [
  | inl same ↦ ap (λ t. has t all) same ∙ given
  | inr before ↦ among z before
]

put_fewer : CacheLaws → (all : List (List ℕ)) (x : List ℕ) (judged : JudgedView) (held : Holding) → IsOnce (names held.entries) → has x all ≡ true → AreAmong (names held.entries) all
    → length all ≤ held.capacity → has x (names held.entries) ≡ false → suc (unheld all (names (put_in x judged held))) ≤ unheld all (names held.entries)
put_fewer laws all x judged held once given among few none =
    unheld_one all (names held.entries) (names (put_in x judged held)) x (put_stay laws all x judged held once given among few) none
    (laws.named x (put_in x judged held) ∙ (laws.put all x judged held).held) given

-- ---- one chain is stored

-- as many files were read as chains were judged, and the texts that are held are among all
pub record StoredFew (all held now : List (List ℕ)) (judged : ℕ) : Type 0 where
  pub reads : judged + unheld all now ≤ unheld all held
  pub among : AreAmong now all

abbrev pub judged_count : State → ℕ
judged_count state = cond (is_judged state) 1 0

kept_few : (all : List (List ℕ)) (x : List ℕ) (state : State) (held now : Holding) (kept kept_now : Kept) → KeepsChain x state held now kept kept_now → AreAmong (names held.entries) all
    → StoredFew all (names held.entries) (names now.entries) 0
kept_few all x state held now kept kept_now one among =
    subst (λ (h : Holding). StoredFew all (names held.entries) (names h.entries) 0) (sym one.same) (record { reads = omega arith; among = among })

judged_few : CacheLaws → (all : List (List ℕ)) (x : List ℕ) (judged : JudgedView) (held now : Holding) (kept kept_now : Kept) (failed : Bool) → failed ≡ false
    → StoresJudged failed x judged held now kept kept_now → IsOnce (names held.entries) → has x all ≡ true → AreAmong (names held.entries) all → length all ≤ held.capacity
    → has x (names held.entries) ≡ false → StoredFew all (names held.entries) (names now.entries) 1
judged_few laws all x judged held now kept kept_now true answered one once given among few none = absurd (false_is_not_true (sym answered))
judged_few laws all x judged held now kept kept_now false answered one once given among few none =
    subst (λ (h : Holding). StoredFew all (names held.entries) (names h.entries) 1) (sym one.holds)
    (record { reads = (let less = put_fewer laws all x judged held once given among few none in omega arith); among = put_among laws all x judged held given among })

one_few : CacheLaws → (all : List (List ℕ)) (x : List ℕ) (state : State) (held now : Holding) (kept kept_now : Kept) → is_unasked state ≡ false
    → StoresChain x state held now kept kept_now → IsOnce (names held.entries) → has x all ≡ true → AreAmong (names held.entries) all → length all ≤ held.capacity
    → has x (names held.entries) ≡ false → StoredFew all (names held.entries) (names now.entries) (judged_count state)
one_few laws all x (have judged) held now kept kept_now answered one once given among few none =
    judged_few laws all x judged held now kept kept_now (is_failed judged.asked) answered one once given among few none
one_few laws all x no_chain held now kept kept_now answered one once given among few none = kept_few all x no_chain held now kept kept_now one among
one_few laws all x long held now kept kept_now answered one once given among few none = kept_few all x long held now kept kept_now one among
one_few laws all x unread held now kept kept_now answered one once given among few none = kept_few all x unread held now kept kept_now one among

-- another isn't held then, if it wasn't
kept_none : (z x : List ℕ) (state : State) (held now : Holding) (kept kept_now : Kept) → KeepsChain x state held now kept kept_now → has z (names held.entries) ≡ false
    → has z (names now.entries) ≡ false
kept_none z x state held now kept kept_now one none = ap (λ (h : Holding). has z (names h.entries)) one.same ∙ none

put_none : CacheLaws → (z x : List ℕ) (judged : JudgedView) (held : Holding) → bytes_eq z x ≡ false → has z (names held.entries) ≡ false → has z (names (put_in x judged held)) ≡ false
put_none laws z x judged held other none = by (has z (names (put_in x judged held))) refl
  where
    by : (b : Bool) → has z (names (put_in x judged held)) ≡ b → has z (names (put_in x judged held)) ≡ false
    by false is = is
    by true is = elim (put_named laws x z judged held is) [
      | inl same ↦ absurd (false_is_not_true (sym other ∙ ap (λ t. bytes_eq t x) same ∙ nat_list_eq_equiv.refl x))
      | inr before ↦ absurd (false_is_not_true (sym none ∙ before))
    ]

judged_none : CacheLaws → (z x : List ℕ) (judged : JudgedView) (held now : Holding) (kept kept_now : Kept) (failed : Bool) → StoresJudged failed x judged held now kept kept_now
    → bytes_eq z x ≡ false → has z (names held.entries) ≡ false → has z (names now.entries) ≡ false
judged_none laws z x judged held now kept kept_now true one other none = kept_none z x (have judged) held now kept kept_now one none
judged_none laws z x judged held now kept kept_now false one other none =
    ap (λ (h : Holding). has z (names h.entries)) one.holds ∙ put_none laws z x judged held other none

one_none : CacheLaws → (z x : List ℕ) (state : State) (held now : Holding) (kept kept_now : Kept) → StoresChain x state held now kept kept_now → bytes_eq z x ≡ false
    → has z (names held.entries) ≡ false → has z (names now.entries) ≡ false
one_none laws z x (have judged) held now kept kept_now one other none = judged_none laws z x judged held now kept kept_now (is_failed judged.asked) one other none
one_none laws z x no_chain held now kept kept_now one other none = kept_none z x no_chain held now kept kept_now one none
one_none laws z x long held now kept kept_now one other none = kept_none z x long held now kept kept_now one none
one_none laws z x unread held now kept kept_now one other none = kept_none z x unread held now kept kept_now one none

-- ---- all of them in turn

or_none : (b c : Bool) → (b || c) ≡ false → (b ≡ false) × (c ≡ false)
or_none true c none = absurd (false_is_not_true (sym none))
or_none false c none = (refl, none)

-- one of several, of which the first is none
apart_of : (z x : List ℕ) (xs : List (List ℕ)) → has x xs ≡ false → has z xs ≡ true → (b : Bool) → bytes_eq z x ≡ b → bytes_eq z x ≡ false
apart_of z x xs none is true same = absurd (false_is_not_true (sym none ∙ ap (λ t. has t xs) (sym (same_text z x same)) ∙ is))
apart_of z x xs none is false same = same

count_by : (b : Bool) (s : State) (ss : List State) → length (cond b (s ∷ ss) ss) ≡ cond b 1 0 + length ss
count_by true s ss = omega arith
count_by false s ss = omega arith

pub all_few : CacheLaws → (all texts : List (List ℕ)) (states : List State) (held now : Holding) (kept kept_now : Kept) → AreAmong texts all → AreAmong (names held.entries) all
    → length all ≤ held.capacity → IsOnce texts → ((z : List ℕ) → has z texts ≡ true → has z (names held.entries) ≡ false) → list_any is_unasked states ≡ false
    → StoresAll texts states held now kept kept_now → StoredFew all (names held.entries) (names now.entries) (length (filter is_judged states))
all_few laws all [] [] held now kept kept_now texts_among among few once none answered stores =
    subst (λ (h : Holding). StoredFew all (names held.entries) (names h.entries) 0) (sym stores.0) (record { reads = omega arith; among = among })
all_few laws all [] (s ∷ ss) held now kept kept_now texts_among among few once none answered stores = absurd stores
all_few laws all (x ∷ xs) [] held now kept kept_now texts_among among few once none answered stores = absurd stores
all_few laws all (x ∷ xs) (s ∷ ss) held now kept kept_now texts_among among few once none answered stores =
    let next = stores.next in
    let parts = or_none (is_unasked s) (list_any is_unasked ss) answered in
    let given : has x all ≡ true = texts_among x (ap (λ b. b || has x xs) (nat_list_eq_equiv.refl x)) in
    let free : has x (names held.entries) ≡ false = none x (ap (λ b. b || has x xs) (nat_list_eq_equiv.refl x)) in
    let one = one_few laws all x s held next kept stores.kept_next parts.0 stores.stores stores.once given among few free in
    let size : length all ≤ next.capacity = subst (λ n. length all ≤ n) (sym (one_capacity x s held next kept stores.kept_next stores.stores)) few in
    let rest = all_few laws all xs ss next now stores.kept_next kept_now (λ z is. texts_among z (or_right (bytes_eq z x) (has z xs) is)) one.among size once.1
    (λ z is. one_none laws z x s held next kept stores.kept_next stores.stores (apart_of z x xs once.0 is (bytes_eq z x) refl) (none z (or_right (bytes_eq z x) (has z xs) is)))
    parts.1 stores.others in
    record {
      reads = (let count = count_by (is_judged s) s (filter is_judged ss) in let first = one.reads in let others = rest.reads in omega arith);
      among = rest.among;
    }
