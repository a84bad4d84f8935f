-- What is at a worker's own places of a round's texts, calls and answers.
use Rattle.std.proofs.Common.{◌≡◌, ℕ, suc, ◌+◌, ◌<◌, ◌%◌, ◌==◌, ◌&&◌, ◌||◌, inl, inr, Bool, true, false, cond, List, [], ◌∷◌, filter, length, Option, Some, mod-lt, refl, sym, ap, ◌∙◌, arith, length-append}
use Rattle.std.proofs.lemmas.Bool.Decides.{nat_tests}
use Rattle.std.specs.Cmp.Lexicographic.{bytes_decides, nat_list_eq_equiv}
use Rattle.std.specs.List.{list_any, slice_get}
use Rattle.std.specs.Str.{bytes_eq}
use Rattle.cert_store.specs.Holding.{Chains}
use Rattle.cert_store.specs.Judged.{JudgedView}
use Rattle.cert_store.specs.Using.{AreAmong, IsOnce, has}
use Rattle.verify_rules.specs.States.{State, have, long, no_chain, unread}
use Rattle.verify_service.specs.Carrying.{one_if, out_at, own_open, own_passports, passports_at}
use Rattle.verify_service.specs.Causes.{is_unasked_passport}
use Rattle.verify_service.specs.Judging.{EachPair}
use Rattle.verify_service.specs.Needed.{all_named, named_by, x5u_of}
use Rattle.verify_service.specs.RoundRead.{own_of}
use Rattle.verify_service.specs.Screening.{readings_in}
use Rattle.verify_service.specs.declared.outcome.Outcome.{Outcome}
use Rattle.verify_service.specs.declared.screening.ReadyCall.{ReadyCall}
use Rattle.verify_service.specs.declared.screening.Screening.{Screening}
use Rattle.verify_service.specs.declared.screening.Screening.TheVariants.{Open, Refused, Passed}
use Rattle.verify_service.proofs.JudgedChainLaws.{judged_chains, judged_first}
use Rattle.call_judging.proofs.ListLaws.{mapped_length}
use Rattle.verify_service.proofs.StoreAllLaws.{IsPair}
use Rattle.verify_service.proofs.TestLaws.{false_is_not_true, or_right}

or_none : (b c : Bool) → b ≡ false → c ≡ false → (b || c) ≡ false
or_none b c one two = ap (λ t. t || c) one ∙ two

itself : (n : ℕ) → (n == n) ≡ true
itself n = grind (arith, nat_tests)

-- ---- pair by pair

own_by : {A B : Type 0} → (R : A → B → Type 0) (b : Bool) (x : A) (y : B) (xs : List A) (ys : List B) → R x y → EachPair R xs ys → EachPair R (cond b (x ∷ xs) xs) (cond b (y ∷ ys) ys)
own_by R true x y xs ys one others = (one, others)
own_by R false x y xs ys one others = others

pub own_each : {A B : Type 0} → (R : A → B → Type 0) (index count place : ℕ) (xs : List A) (ys : List B) → EachPair R xs ys → EachPair R (own_of index count place xs) (own_of index count place ys)
own_each R index count place [] [] each = tt
own_each R index count place [] (y ∷ ys) each = absurd each
own_each R index count place (x ∷ xs) [] each = absurd each
own_each R index count place (x ∷ xs) (y ∷ ys) each =
    own_by R (place % count == index) x y (own_of index count (suc place) xs) (own_of index count (suc place) ys) each.0 (own_each R index count (suc place) xs ys each.1)

-- ---- what no worker has among its own, nobody has

none_first : {A : Type 0} → (p : A → Bool) (x : A) (xs : List A) → list_any p (x ∷ xs) ≡ false → p x ≡ false
none_first p x xs none = by (p x) refl none
  where
    by : (b : Bool) → p x ≡ b → (b || list_any p xs) ≡ false → p x ≡ false
    by true is other = absurd (false_is_not_true (sym other))
    by false is other = is

none_rest : {A : Type 0} → (p : A → Bool) (b : Bool) (x : A) (xs : List A) → list_any p (cond b (x ∷ xs) xs) ≡ false → list_any p xs ≡ false
none_rest p true x xs none = by (p x) none
  where
    by : (b : Bool) → (b || list_any p xs) ≡ false → list_any p xs ≡ false
    by true other = absurd (false_is_not_true (sym other))
    by false other = other
none_rest p false x xs none = none

pub none_own : {A : Type 0} → (p : A → Bool) (count place : ℕ) (xs : List A) → 0 < count → ((w : ℕ) → w < count → list_any p (own_of w count place xs) ≡ false) → list_any p xs ≡ false
none_own p count place [] some none = refl
none_own p count place (x ∷ xs) some none =
    or_none (p x) (list_any p xs)
    (none_first p x (own_of (place % count) count (suc place) xs)
    (sym (ap (λ b. list_any p (cond b (x ∷ own_of (place % count) count (suc place) xs) (own_of (place % count) count (suc place) xs))) (itself (place % count))) ∙ none (place % count) (mod-lt place some)))
    (none_own p count (suc place) xs some (λ w less. none_rest p (place % count == w) x (own_of w count (suc place) xs) (none w less)))

-- ---- texts

own_or : (z x : List ℕ) (c : Bool) (mine xs : List (List ℕ)) → (has z mine ≡ true → has z xs ≡ true) → (c || has z mine) ≡ true → (c || has z xs) ≡ true
own_or z x true mine xs law given = refl
own_or z x false mine xs law given = law given

own_among_by : (b : Bool) (z x : List ℕ) (mine xs : List (List ℕ)) → (has z mine ≡ true → has z xs ≡ true) → has z (cond b (x ∷ mine) mine) ≡ true → has z (x ∷ xs) ≡ true
own_among_by true z x mine xs law given = own_or z x (bytes_eq z x) mine xs law given
own_among_by false z x mine xs law given = or_right (bytes_eq z x) (has z xs) (law given)

pub own_among : (index count place : ℕ) (xs : List (List ℕ)) → AreAmong (own_of index count place xs) xs
own_among index count place [] z is = is
own_among index count place (x ∷ xs) z is = own_among_by (place % count == index) z x (own_of index count (suc place) xs) xs (own_among index count (suc place) xs z) is

not_own : (index count place : ℕ) (xs : List (List ℕ)) (z : List ℕ) → has z xs ≡ false → has z (own_of index count place xs) ≡ false
not_own index count place xs z none = by (has z (own_of index count place xs)) refl
  where
    by : (b : Bool) → has z (own_of index count place xs) ≡ b → has z (own_of index count place xs) ≡ false
    by true is = absurd (false_is_not_true (sym none ∙ own_among index count place xs z is))
    by false is = is

pub has_itself : (x : List ℕ) (xs : List (List ℕ)) → has x (x ∷ xs) ≡ true
has_itself x xs = ap (λ b. b || has x xs) (nat_list_eq_equiv.refl x)

pub pair_among : (x : List ℕ) (s : State) (texts : List (List ℕ)) (states : List State) → IsPair x s texts states → has x texts ≡ true
pair_among x s [] states p = absurd p
pair_among x s (t ∷ ts) [] p = absurd p
pair_among x s (t ∷ ts) (u ∷ us) (inl here) = ap (λ y. has y (t ∷ ts)) here.0 ∙ has_itself t ts
pair_among x s (t ∷ ts) (u ∷ us) (inr later) = or_right (bytes_eq x t) (has x ts) (pair_among x s ts us later)

later_by : (c : Bool) (x t : List ℕ) (s : State) (ts mine : List (List ℕ)) (us : List State) → bytes_eq x t ≡ c → has t ts ≡ false → IsPair x s ts us → (c || has x mine) ≡ true
    → has x mine ≡ true
later_by true x t s ts mine us same none q given =
    let is : x ≡ t = (bytes_decides x t).0 same in
    absurd (false_is_not_true (sym none ∙ ap (λ y. has y ts) (sym is) ∙ pair_among x s ts us q))
later_by false x t s ts mine us same none q given = given

own_pair_by : (b : Bool) (x t : List ℕ) (s u : State) (ts mine : List (List ℕ)) (us theirs : List State) → has t ts ≡ false → has t mine ≡ false
    → (IsPair x s ts us → has x mine ≡ true → IsPair x s mine theirs) → IsPair x s (t ∷ ts) (u ∷ us) → has x (cond b (t ∷ mine) mine) ≡ true
    → IsPair x s (cond b (t ∷ mine) mine) (cond b (u ∷ theirs) theirs)
own_pair_by true x t s u ts mine us theirs once none law (inl here) given = inl here
own_pair_by true x t s u ts mine us theirs once none law (inr q) given = inr (law q (later_by (bytes_eq x t) x t s ts mine us refl once q given))
own_pair_by false x t s u ts mine us theirs once none law (inl here) given = absurd (false_is_not_true (sym none ∙ ap (λ y. has y mine) (sym here.0) ∙ given))
own_pair_by false x t s u ts mine us theirs once none law (inr q) given = law q given

-- a text that is one of a worker's own is there with its state
pub own_pair : (index count place : ℕ) (texts : List (List ℕ)) (states : List State) (x : List ℕ) (s : State) → IsOnce texts → IsPair x s texts states
    → has x (own_of index count place texts) ≡ true → IsPair x s (own_of index count place texts) (own_of index count place states)
own_pair index count place [] states x s once p own = absurd p
own_pair index count place (t ∷ ts) [] x s once p own = absurd p
own_pair index count place (t ∷ ts) (u ∷ us) x s once p own =
    own_pair_by (place % count == index) x t s u ts (own_of index count (suc place) ts) us (own_of index count (suc place) us) once.0 (not_own index count (suc place) ts t once.0)
    (λ q given. own_pair index count (suc place) ts us x s once.1 q given) p own

-- the chains of these texts that pass a test are those of a worker's own, if the test is whether it is one of these
filter_first : (q : List ℕ → Bool) (t : List ℕ) (u : State) (chains : Chains) (b : Bool) → q t ≡ b
    → filter (λ (e : List ℕ × JudgedView). q e.0) (judged_first t u chains) ≡ cond b (judged_first t u (filter (λ (e : List ℕ × JudgedView). q e.0) chains)) (filter (λ (e : List ℕ × JudgedView). q e.0) chains)
filter_first q t (have judged) chains true is = ap (λ c. cond c ((t, judged) ∷ filter (λ (e : List ℕ × JudgedView). q e.0) chains) (filter (λ (e : List ℕ × JudgedView). q e.0) chains)) is
filter_first q t (have judged) chains false is = ap (λ c. cond c ((t, judged) ∷ filter (λ (e : List ℕ × JudgedView). q e.0) chains) (filter (λ (e : List ℕ × JudgedView). q e.0) chains)) is
filter_first q t no_chain chains true is = refl
filter_first q t no_chain chains false is = refl
filter_first q t long chains true is = refl
filter_first q t long chains false is = refl
filter_first q t unread chains true is = refl
filter_first q t unread chains false is = refl

chains_by : (b : Bool) (t : List ℕ) (u : State) (ts : List (List ℕ)) (us : List State)
    → cond b (judged_first t u (judged_chains ts us)) (judged_chains ts us) ≡ judged_chains (cond b (t ∷ ts) ts) (cond b (u ∷ us) us)
chains_by true t u ts us = refl
chains_by false t u ts us = refl

own_test : (index count place : ℕ) (q : List ℕ → Bool) (texts : List (List ℕ)) (states : List State) → IsOnce texts
    → ((y : List ℕ) → has y texts ≡ true → q y ≡ has y (own_of index count place texts))
    → filter (λ (e : List ℕ × JudgedView). q e.0) (judged_chains texts states) ≡ judged_chains (own_of index count place texts) (own_of index count place states)
own_test index count place q [] states once law = refl
own_test index count place q (t ∷ ts) [] once law = none (own_of index count place (t ∷ ts))
  where
    none : (xs : List (List ℕ)) → ◌≡◌ {A = Chains} [] (judged_chains xs [])
    none [] = refl
    none (x ∷ xs) = refl
own_test index count place q (t ∷ ts) (u ∷ us) once law =
    filter_first q t u (judged_chains ts us) b (law t (has_itself t ts) ∙ first b refl)
    ∙ ap (λ (cs : Chains). cond b (judged_first t u cs) cs) (own_test index count (suc place) q ts us once.1 (λ y is. law y (or_right (bytes_eq y t) (has y ts) is) ∙ rest y b is))
    ∙ chains_by b t u mine (own_of index count (suc place) us)
  where
    b : Bool
    b = place % count == index

    mine : List (List ℕ)
    mine = own_of index count (suc place) ts

    first : (c : Bool) → c ≡ c → has t (cond c (t ∷ mine) mine) ≡ c
    first true is = has_itself t mine
    first false is = not_own index count (suc place) ts t once.0

    apart : (y : List ℕ) (c : Bool) → bytes_eq y t ≡ c → has y ts ≡ true → (c || has y mine) ≡ has y mine
    apart y true same is = absurd (false_is_not_true (sym once.0 ∙ ap (λ z. has z ts) (sym ((bytes_decides y t).0 same)) ∙ is))
    apart y false same is = refl

    rest : (y : List ℕ) (c : Bool) → has y ts ≡ true → has y (cond c (t ∷ mine) mine) ≡ has y mine
    rest y true is = apart y (bytes_eq y t) refl is
    rest y false is = refl

pub own_chains : (index count : ℕ) (texts : List (List ℕ)) (states : List State) → IsOnce texts
    → filter (λ (e : List ℕ × JudgedView). has e.0 (own_of index count 0 texts)) (judged_chains texts states) ≡ judged_chains (own_of index count 0 texts) (own_of index count 0 states)
own_chains index count texts states once = own_test index count 0 (λ y. has y (own_of index count 0 texts)) texts states once (λ y is. refl)

-- ---- some of texts, each once

some_by : (b : Bool) (p : List ℕ → Bool) (z x : List ℕ) (xs : List (List ℕ)) → p x ≡ b → (has z (filter p xs) ≡ true → (has z xs ≡ true) × (p z ≡ true))
    → has z (cond b (x ∷ filter p xs) (filter p xs)) ≡ true → (has z (x ∷ xs) ≡ true) × (p z ≡ true)
some_by true p z x xs passes law given = either (bytes_eq z x) refl law given
  where
    either : (c : Bool) → bytes_eq z x ≡ c → (has z (filter p xs) ≡ true → (has z xs ≡ true) × (p z ≡ true)) → (c || has z (filter p xs)) ≡ true → ((c || has z xs) ≡ true) × (p z ≡ true)
    either true same later so = (refl, ap p ((bytes_decides z x).0 same) ∙ passes)
    either false same later so = later so
some_by false p z x xs passes law given = let later = law given in (or_right (bytes_eq z x) (has z xs) later.0, later.1)

pub some_among : (p : List ℕ → Bool) (z : List ℕ) (xs : List (List ℕ)) → has z (filter p xs) ≡ true → (has z xs ≡ true) × (p z ≡ true)
some_among p z [] is = absurd (false_is_not_true is)
some_among p z (x ∷ xs) is = some_by (p x) p z x xs refl (some_among p z xs) is

none_some : (p : List ℕ → Bool) (x : List ℕ) (xs : List (List ℕ)) (b : Bool) → has x xs ≡ false → has x (filter p xs) ≡ b → has x (filter p xs) ≡ false
none_some p x xs true none is = absurd (false_is_not_true (sym none ∙ (some_among p x xs is).0))
none_some p x xs false none is = is

once_some_by : (b : Bool) (x : List ℕ) (ys : List (List ℕ)) → has x ys ≡ false → IsOnce ys → IsOnce (cond b (x ∷ ys) ys)
once_some_by true x ys none once = (none, once)
once_some_by false x ys none once = once

pub once_some : (p : List ℕ → Bool) (xs : List (List ℕ)) → IsOnce xs → IsOnce (filter p xs)
once_some p [] once = tt
once_some p (x ∷ xs) once = once_some_by (p x) x (filter p xs) (none_some p x xs (has x (filter p xs)) once.0 refl) (once_some p xs once.1)

-- ---- counted from the first place on, as it was from the last one back

next_of : (k n : ℕ) → k + suc n ≡ suc k + n
next_of k n = omega arith

zero_plus : (n : ℕ) → 0 + n ≡ n
zero_plus n = omega arith

one_plus : (n : ℕ) → 1 + n ≡ suc n
one_plus n = omega arith

open_by : (b c : Bool) (x : Outcome) (mine : List Outcome) → is_unasked_passport x ≡ c
    → one_if (b && c) + length (filter is_unasked_passport mine) ≡ length (filter is_unasked_passport (cond b (x ∷ mine) mine))
open_by true true x mine is =
    one_plus (length (filter is_unasked_passport mine)) ∙ sym (ap (λ t. length (cond t (x ∷ filter is_unasked_passport mine) (filter is_unasked_passport mine))) is)
open_by true false x mine is =
    zero_plus (length (filter is_unasked_passport mine)) ∙ sym (ap (λ t. length (cond t (x ∷ filter is_unasked_passport mine) (filter is_unasked_passport mine))) is)
open_by false c x mine is = zero_plus (length (filter is_unasked_passport mine))

open_from : (count worker k : ℕ) (outs xs : List Outcome) → ((i : ℕ) → i < length xs → out_at outs (k + i) ≡ out_at xs i)
    → own_open count worker outs (k + length xs) ≡ own_open count worker outs k + length (filter is_unasked_passport (own_of worker count k xs))
open_from count worker k outs [] same = let none : k + 0 ≡ k = omega arith in ap (own_open count worker outs) none ∙ sum (own_open count worker outs k)
  where
    sum : (n : ℕ) → n ≡ n + 0
    sum n = omega arith
open_from count worker k outs (x ∷ xs) same =
    let here : out_at outs k ≡ x = ap (out_at outs) (zero_more k) ∙ same 0 (omega arith) in
    let later = open_from count worker (suc k) outs xs (λ i less. ap (out_at outs) (sym (next_of k i)) ∙ same (suc i) (omega arith)) in
    let one = open_by (k % count == worker) (is_unasked_passport x) x (own_of worker count (suc k) xs) refl in
    ap (own_open count worker outs) (next_of k (length xs)) ∙ later
    ∙ ap (λ (o : Outcome). one_if ((k % count == worker) && is_unasked_passport o) + own_open count worker outs k + length (filter is_unasked_passport (own_of worker count (suc k) xs))) here
    ∙ turned (one_if ((k % count == worker) && is_unasked_passport x)) (own_open count worker outs k) (length (filter is_unasked_passport (own_of worker count (suc k) xs))) _ one
  where
    zero_more : (n : ℕ) → n ≡ n + 0
    zero_more n = omega arith

    turned : (a b c d : ℕ) → a + c ≡ d → a + b + c ≡ b + d
    turned a b c d is = omega arith

-- how many of a worker's calls are set aside for a signature of their own
pub own_open_is : (count worker : ℕ) (outs : List Outcome) → own_open count worker outs (length outs) ≡ length (filter is_unasked_passport (own_of worker count 0 outs))
own_open_is count worker outs = let none : 0 + length outs ≡ length outs = omega arith in
    sym (ap (own_open count worker outs) none) ∙ open_from count worker 0 outs outs (λ i less. ap (out_at outs) (plain i)) ∙ plain (length (filter is_unasked_passport (own_of worker count 0 outs)))
  where
    plain : (n : ℕ) → 0 + n ≡ n
    plain n = omega arith

named_many : (screening : Screening) → length (named_by screening) ≡ length (readings_in screening)
named_many Open = refl
named_many (Refused refused) = refl
named_many (Passed screened) = mapped_length x5u_of screened.readings

passports_by : (b : Bool) (call : ReadyCall) (mine : List ReadyCall) → cond b (length (readings_in call.screening)) 0 + length (all_named mine) ≡ length (all_named (cond b (call ∷ mine) mine))
passports_by true call mine = let both = length-append (named_by call.screening) (all_named mine) in let one = named_many call.screening in omega arith
passports_by false call mine = omega arith

passports_from : (count worker k : ℕ) (calls xs : List ReadyCall) → ((i : ℕ) → i < length xs → slice_get calls (k + i) ≡ slice_get xs i)
    → own_passports count worker calls (k + length xs) ≡ own_passports count worker calls k + length (all_named (own_of worker count k xs))
passports_from count worker k calls [] same = let none : k + 0 ≡ k = omega arith in ap (own_passports count worker calls) none ∙ sum (own_passports count worker calls k)
  where
    sum : (n : ℕ) → n ≡ n + 0
    sum n = omega arith
passports_from count worker k calls (x ∷ xs) same =
    let here : slice_get calls k ≡ Some x = ap (slice_get calls) (zero_more k) ∙ same 0 (omega arith) in
    let later = passports_from count worker (suc k) calls xs (λ i less. ap (slice_get calls) (sym (next_of k i)) ∙ same (suc i) (omega arith)) in
    let one = passports_by (k % count == worker) x (own_of worker count (suc k) xs) in
    ap (own_passports count worker calls) (next_of k (length xs)) ∙ later
    ∙ ap (λ (o : Option ReadyCall). cond (k % count == worker) (passports_at o) 0 + own_passports count worker calls k + length (all_named (own_of worker count (suc k) xs))) here
    ∙ turned (cond (k % count == worker) (length (readings_in x.screening)) 0) (own_passports count worker calls k) (length (all_named (own_of worker count (suc k) xs))) _ one
  where
    zero_more : (n : ℕ) → n ≡ n + 0
    zero_more n = omega arith

    turned : (a b c d : ℕ) → a + c ≡ d → a + b + c ≡ b + d
    turned a b c d is = omega arith

-- how many PASSporTs are judged in them
pub own_passports_are : (count worker : ℕ) (calls : List ReadyCall) → own_passports count worker calls (length calls) ≡ length (all_named (own_of worker count 0 calls))
own_passports_are count worker calls = let none : 0 + length calls ≡ length calls = omega arith in
    sym (ap (own_passports count worker calls) none) ∙ passports_from count worker 0 calls calls (λ i less. ap (slice_get calls) (plain i)) ∙ plain (length (all_named (own_of worker count 0 calls)))
  where
    plain : (n : ℕ) → 0 + n ≡ n
    plain n = omega arith
