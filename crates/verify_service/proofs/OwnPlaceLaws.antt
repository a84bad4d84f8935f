-- A worker's own places: those that leave its index as remainder. How many of them there are before a place, and what holds at each.
use Rattle.std.proofs.Common.{◌≡◌, ◌≢◌, ℕ, zero, suc, ◌+◌, ◌*◌, ◌<◌, ◌≤◌, ◌%◌, ◌/◌, ◌==◌, Bool, true, false, cond, List, [], ◌∷◌, ◌++◌, append-nil, get_or, length, nat_lt, take, Option, None, Some, refl, sym, ap, ◌∙◌, subst, arith, div-add-mod', length-take-le, mod-eq_of_lt, mod-lt, suc-mul, zero-add, zero-mul}
use Rattle.std.proofs.lemmas.Bool.Decides.{nat_tests}
use Rattle.std.proofs.lemmas.List.{take_more}
use Rattle.std.proofs.lemmas.Option.{same_Some}
use Rattle.std.specs.List.{slice_get}
use Rattle.verify_service.specs.Judging.{EachPair}
use Rattle.verify_service.specs.RoundRead.{own_of}
use native.Mathlib.Nat.{add-mul-mod_self_right}

-- ---- one place more

append_by : {A : Type 0} → (b : Bool) (x : A) (more own last : List A) → more ≡ own ++ last → cond b (x ∷ more) more ≡ cond b (x ∷ own) own ++ last
append_by true x more own last same = ap (λ l. x ∷ l) same
append_by false x more own last same = same

own_of_more : {A : Type 0} → (index count place : ℕ) (xs : List A) (x : A)
    → own_of index count place (xs ++ x ∷ []) ≡ own_of index count place xs ++ cond ((place + length xs) % count == index) (x ∷ []) []
own_of_more index count place [] x = let same : place ≡ place + 0 = omega arith in ap (λ n. cond (n % count == index) (x ∷ []) []) same
own_of_more index count place (y ∷ xs) x =
    let same : suc place + length xs ≡ place + suc (length xs) = omega arith in
    append_by (place % count == index) y (own_of index count (suc place) (xs ++ x ∷ [])) (own_of index count (suc place) xs) (cond ((place + suc (length xs)) % count == index) (x ∷ []) [])
    (own_of_more index count (suc place) xs x ∙ ap (λ n. own_of index count (suc place) xs ++ cond (n % count == index) (x ∷ []) []) same)

-- those among the first so many, and the next if it is one
own_next : {A : Type 0} → (index count : ℕ) (xs : List A) (place : ℕ) (x d : A) → place < length xs → x ≡ get_or xs place d
    → own_of index count 0 (take (place + 1) xs) ≡ own_of index count 0 (take place xs) ++ cond (place % count == index) (x ∷ []) []
own_next index count xs place x d within is =
    let size : length (take place xs) ≡ place = length-take-le place xs (omega arith) in
    ap (own_of index count 0) (take_more xs place d within ∙ ap (λ y. take place xs ++ y ∷ []) (sym is)) ∙ own_of_more index count 0 (take place xs) x
    ∙ ap (λ n. own_of index count 0 (take place xs) ++ cond (n % count == index) (x ∷ []) []) (zero-add (length (take place xs)) ∙ size)

is_test : (a b : ℕ) → a ≡ b → (a == b) ≡ true
is_test a b same = grind (arith, nat_tests)

no_test : (a b : ℕ) → a ≢ b → (a == b) ≡ false
no_test a b apart = grind (arith, nat_tests)

pub own_here : {A : Type 0} → (index count : ℕ) (xs : List A) (place : ℕ) (x d : A) → place < length xs → x ≡ get_or xs place d → place % count ≡ index
    → own_of index count 0 (take (place + 1) xs) ≡ own_of index count 0 (take place xs) ++ x ∷ []
own_here index count xs place x d within is own =
    own_next index count xs place x d within is ∙ ap (λ b. own_of index count 0 (take place xs) ++ cond b (x ∷ []) []) (is_test (place % count) index own)

pub own_not_here : {A : Type 0} → (index count : ℕ) (xs : List A) (place : ℕ) (x d : A) → place < length xs → x ≡ get_or xs place d → place % count ≢ index
    → own_of index count 0 (take (place + 1) xs) ≡ own_of index count 0 (take place xs)
own_not_here index count xs place x d within is own =
    own_next index count xs place x d within is ∙ ap (λ b. own_of index count 0 (take place xs) ++ cond b (x ∷ []) []) (no_test (place % count) index own)
    ∙ append-nil (own_of index count 0 (take place xs))

-- ---- how many there are among so many from a place on

abbrev pub own_before : ℕ → ℕ → ℕ → ℕ → ℕ
own_before index count place zero = 0
own_before index count place (suc i) = cond (place % count == index) (suc (own_before index count (suc place) i)) (own_before index count (suc place) i)

more_by : (b c : Bool) (more before : ℕ) → more ≡ before + cond c 1 0 → cond b (suc more) more ≡ cond b (suc before) before + cond c 1 0
more_by true c more before same = omega arith
more_by false c more before same = same

before_one : (b : Bool) → cond b 1 0 ≡ 0 + cond b 1 0
before_one true = refl
before_one false = refl

before_more : (index count place i : ℕ) → own_before index count place (suc i) ≡ own_before index count place i + cond ((place + i) % count == index) 1 0
before_more index count place zero =
    let same : place ≡ place + 0 = omega arith in before_one (place % count == index) ∙ ap (λ n. 0 + cond (n % count == index) 1 0) same
before_more index count place (suc i) =
    let same : suc place + i ≡ place + suc i = omega arith in
    more_by (place % count == index) ((place + suc i) % count == index) (own_before index count (suc place) (suc i)) (own_before index count (suc place) i)
    (before_more index count (suc place) i ∙ ap (λ n. own_before index count (suc place) i + cond (n % count == index) 1 0) same)

-- the remainder of a number in two parts
rest_of : (count q r : ℕ) → r < count → (q * count + r) % count ≡ r
rest_of count q r less = let turn : q * count + r ≡ r + q * count = omega arith in ap (λ n. n % count) turn ∙ add-mul-mod_self_right r q count ∙ mod-eq_of_lt less

abbrev one_if : Bool → ℕ
one_if b = cond b 1 0

-- one more once a turn has passed the worker's own place
passed : (index r : ℕ) → cond (nat_lt index r) 1 0 + cond (r == index) 1 0 ≡ cond (nat_lt index (suc r)) 1 0
passed index r = by (nat_lt index r) (r == index) (nat_lt index (suc r)) refl refl refl
  where
    by : (b c d : Bool) → nat_lt index r ≡ b → (r == index) ≡ c → nat_lt index (suc r) ≡ d → cond b 1 0 + cond c 1 0 ≡ cond d 1 0
    by true true d below same next = absurd (grind (arith, nat_tests))
    by true false true below same next = refl
    by true false false below same next = absurd (grind (arith, nat_tests))
    by false true true below same next = refl
    by false true false below same next = absurd (grind (arith, nat_tests))
    by false false true below same next = absurd (grind (arith, nat_tests))
    by false false false below same next = refl

not_passed : (index r : ℕ) → r ≤ index → ◌≡◌ {A = ℕ} (cond (nat_lt index r) 1 0) 0
not_passed index r less = let test : nat_lt index r ≡ false = grind (arith, nat_tests) in ap one_if test

has_passed : (index r : ℕ) → index < r → ◌≡◌ {A = ℕ} (cond (nat_lt index r) 1 0) 1
has_passed index r less = let test : nat_lt index r ≡ true = grind (arith, nat_tests) in ap one_if test

-- the step from a number whose remainder is known
step_of : (index count i q r : ℕ) → i ≡ q * count + r → r < count → own_before index count 0 i ≡ q + cond (nat_lt index r) 1 0
    → own_before index count 0 (suc i) ≡ q + cond (nat_lt index (suc r)) 1 0
step_of index count i q r is less so_far =
    let rest : (0 + i) % count ≡ r = ap (λ n. n % count) (zero-add i ∙ is) ∙ rest_of count q r less in
    let more : own_before index count 0 (suc i) ≡ own_before index count 0 i + cond (r == index) 1 0 =
    before_more index count 0 i ∙ ap (λ n. own_before index count 0 i + cond (n == index) 1 0) rest in
    let turn = passed index r in
    omega (arith, more, so_far, turn)

-- as many as whole turns, and one more if the last turn has passed the worker's own place
up_to : (index count i q r : ℕ) → index < count → i ≡ q * count + r → r < count → own_before index count 0 i ≡ q + cond (nat_lt index r) 1 0
up_to index count zero zero r few is less = let none = not_passed index r (omega (arith, is, zero-mul count)) in omega (arith, none)
up_to index count zero (suc q) r few is less = absurd (omega (arith, is, suc-mul q count))
up_to index count (suc i) q (suc r) few is less =
    step_of index count i q r (omega (arith, is)) (omega arith) (up_to index count i q r few (omega (arith, is)) (omega arith))
up_to index count (suc i) zero zero few is less = absurd (omega (arith, is, zero-mul count))
up_to index zero (suc i) (suc q) zero few is less = absurd (omega arith)
up_to index (suc m) (suc i) (suc q) zero few is less =
    let last : i ≡ q * suc m + m = omega (arith, is, suc-mul q (suc m)) in
    let step = step_of index (suc m) i q m last (omega arith) (up_to index (suc m) i q m few last (omega arith)) in
    let one = has_passed index (suc m) few in
    let none = not_passed index 0 (omega arith) in
    omega (arith, step, one, none)

-- before a place of the worker's own there are as many as whole turns
pub own_count : (index count i : ℕ) → index < count → i % count ≡ index → own_before index count 0 i ≡ i / count
own_count index count i few own =
    let all = up_to index count i (i / count) (i % count) few (sym (div-add-mod' i count)) (mod-lt i (omega arith)) in
    let none = not_passed index (i % count) (omega (arith, own)) in
    omega (arith, all, none)

-- ---- what holds of each of its own

first_by : {A B : Type 0} → (R : A → Option B → Type 0) (b : Bool) (x : A) (xs : List A) (ys : List (Option B)) → EachPair R (cond b (x ∷ xs) xs) ys → b ≡ true → R x (get_or ys 0 None)
first_by R true x xs [] each own = absurd each
first_by R true x xs (y ∷ ys) each own = each.0
first_by R false x xs ys each own = absurd cc

later_by : {A B : Type 0} → (R : A → Option B → Type 0) (b : Bool) (x z : A) (xs : List A) (ys : List (Option B)) (n : ℕ) → EachPair R (cond b (x ∷ xs) xs) ys
    → ((others : List (Option B)) → EachPair R xs others → R z (get_or others n None)) → R z (get_or ys (cond b (suc n) n) None)
later_by R true x z xs [] n each others = absurd each
later_by R true x z xs (y ∷ ys) n each others = others ys each.1
later_by R false x z xs ys n each others = others ys each

pub own_at : {A B : Type 0} → (R : A → Option B → Type 0) (index count place : ℕ) (xs : List A) (ys : List (Option B)) → EachPair R (own_of index count place xs) ys
    → (i : ℕ) (x : A) → slice_get xs i ≡ Some x → ((place + i) % count == index) ≡ true → R x (get_or ys (own_before index count place i) None)
own_at R index count place [] ys each i x is own = absurd cc
own_at R index count place (z ∷ xs) ys each zero x is own =
    let same : place + 0 ≡ place = omega arith in
    subst (λ a. R a (get_or ys 0 None)) (same_Some z x is)
    (first_by R (place % count == index) z (own_of index count (suc place) xs) ys each (sym (ap (λ n. n % count == index) same) ∙ own))
own_at R index count place (z ∷ xs) ys each (suc i) x is own =
    let same : place + suc i ≡ suc place + i = omega arith in
    later_by R (place % count == index) z x (own_of index count (suc place) xs) ys (own_before index count (suc place) i) each
    (λ others each_of. own_at R index count (suc place) xs others each_of i x is (sym (ap (λ n. n % count == index) same) ∙ own))

-- ---- what stands at its own

-- what stands at each of its own places from this one on is one of these, in turn
abbrev pub StandInTurn : {B : Type 0} → ℕ → ℕ → ℕ → (ℕ → Option B) → List (Option B) → Type 0
StandInTurn index count place at ys = (i : ℕ) → ((place + i) % count == index) ≡ true → at (place + i) ≡ get_or ys (own_before index count place i) None

pub stands_first : {B : Type 0} → (index count place : ℕ) (at : ℕ → Option B) (ys : List (Option B)) → StandInTurn index count place at ys → (place % count == index) ≡ true
    → at place ≡ get_or ys 0 None
stands_first index count place at ys is own = let same : place + 0 ≡ place = omega arith in ap at (sym same) ∙ is 0 (ap (λ n. n % count == index) same ∙ own)

others_by : {B : Type 0} → (b : Bool) (y : Option B) (ys : List (Option B)) (n : ℕ) → get_or (cond b (y ∷ ys) ys) (cond b (suc n) n) None ≡ get_or ys n None
others_by true y ys n = refl
others_by false y ys n = refl

pub stands_others : {B : Type 0} → (index count place : ℕ) (at : ℕ → Option B) (y : Option B) (ys others : List (Option B)) → ys ≡ cond (place % count == index) (y ∷ others) others
    → StandInTurn index count place at ys → StandInTurn index count (suc place) at others
stands_others index count place at y ys others are is i own =
    let same : place + suc i ≡ suc place + i = omega arith in
    ap at (sym same) ∙ is (suc i) (ap (λ n. n % count == index) same ∙ own)
    ∙ ap (λ zs. get_or zs (own_before index count place (suc i)) None) are
    ∙ others_by (place % count == index) y others (own_before index count (suc place) i)
