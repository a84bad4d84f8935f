-- There is room in the past for each valid call, since no two of them have one class.
use Rattle.std.proofs.Common.{◌≡◌, ◌≢◌, ℕ, zero, suc, ◌+◌, ◌-◌, ◌<◌, ◌≤◌, ◌==◌, ◌⊎◌, inl, inr, Bool, true, false, cond, List, [], ◌∷◌, length, Option, Some, None, refl, sym, ap, ◌∙◌, subst, arith}
use Rattle.std.proofs.lemmas.Bool.Decides.{nat_tests}
use Rattle.std.specs.Bool.{⊤}
use Rattle.std.specs.List.{slice_get}
use Rattle.replay_desk.specs.Holder.{Holder, Settled as SeatSettled}
use Rattle.live_desk.specs.Lists.{In}
use Rattle.replay_desk.specs.Past.{PastView}
use Rattle.verify_service.specs.Adding.{is_valid, valid_upto}
use Rattle.verify_service.specs.Carrying.{HasClaims, Placed, one_if, out_at}
use Rattle.verify_service.specs.Claiming.{pair_of}
use Rattle.verify_service.specs.Ready.{AreNumbered, HasRoom, class_in, is_passed}
use Rattle.verify_service.specs.Rows.{passes}
use Rattle.verify_service.specs.declared.outcome.Outcome.{Outcome}
use Rattle.verify_service.specs.declared.outcome.Outcome.TheVariants as outcomes
use Rattle.verify_service.specs.declared.screening.ReadyCall.{ReadyCall}
use Rattle.verify_service.proofs.OutLaws.{next}

-- ---- different numbers below a bound are no more than the bound

abbrev Has : ℕ → List ℕ → Type 0
Has n [] = ⊥
Has n (x ∷ xs) = (n ≡ x) ⊎ Has n xs

abbrev Once : List ℕ → Type 0
Once [] = ⊤
Once (x ∷ xs) = (Has x xs → ⊥) × Once xs

abbrev without : ℕ → List ℕ → List ℕ
without n [] = []
without n (x ∷ xs) = cond (x == n) xs (x ∷ without n xs)

has_by : (c n x : ℕ) (xs : List ℕ) (t : Bool) → (Has c (without n xs) → Has c xs) → Has c (cond t xs (x ∷ without n xs)) → Has c (x ∷ xs)
has_by c n x xs true more has = inr has
has_by c n x xs false more (inl same) = inl same
has_by c n x xs false more (inr later) = inr (more later)

has_still : (c n : ℕ) (xs : List ℕ) → Has c (without n xs) → Has c xs
has_still c n [] has = has
has_still c n (x ∷ xs) has = has_by c n x xs (x == n) (has_still c n xs) has

once_by : (n x : ℕ) (xs : List ℕ) (t : Bool) → Once (x ∷ xs) → Once (without n xs) → Once (cond t xs (x ∷ without n xs))
once_by n x xs true once more = once.1
once_by n x xs false once more = (λ has. once.0 (has_still x n xs has), more)

once_without : (n : ℕ) (xs : List ℕ) → Once xs → Once (without n xs)
once_without n [] once = once
once_without n (x ∷ xs) once = once_by n x xs (x == n) once (once_without n xs once.1)

gone_by : (n x : ℕ) (xs : List ℕ) (t : Bool) → (x == n) ≡ t → Once (x ∷ xs) → (Has n (without n xs) → ⊥) → Has n (cond t xs (x ∷ without n xs)) → ⊥
gone_by n x xs true is once more has = once.0 (subst (λ k. Has k xs) (let e : n ≡ x = grind (arith, nat_tests) in e) has)
gone_by n x xs false is once more (inl same) = (let apart : x ≢ n = grind (arith, nat_tests) in apart (sym same))
gone_by n x xs false is once more (inr later) = more later

gone : (n : ℕ) (xs : List ℕ) → Once xs → Has n (without n xs) → ⊥
gone n [] once has = has
gone n (x ∷ xs) once has = gone_by n x xs (x == n) refl once (gone n xs once.1) has

most_by : (n x : ℕ) (xs : List ℕ) (t : Bool) → length xs ≤ suc (length (without n xs)) → length (x ∷ xs) ≤ suc (length (cond t xs (x ∷ without n xs)))
most_by n x xs true more = omega arith
most_by n x xs false more = omega arith

one_more : (n : ℕ) (xs : List ℕ) → length xs ≤ suc (length (without n xs))
one_more n [] = omega arith
one_more n (x ∷ xs) = most_by n x xs (x == n) (one_more n xs)

no_more : (n : ℕ) (xs : List ℕ) → Once xs → ((c : ℕ) → Has c xs → c < n) → length xs ≤ n
no_more zero [] once below = omega arith
no_more zero (x ∷ xs) once below = let less = below x (inl refl) in absurd (omega arith)
no_more (suc n) xs once below =
    let fewer = no_more n (without n xs) (once_without n xs once) (λ c has. below_still c has) in
    let one = one_more n xs in
    omega arith
  where
    below_still : (c : ℕ) → Has c (without n xs) → c < n
    below_still c has =
        let less = below c (has_still c n xs has) in
        let apart : c ≢ n = λ same. gone n xs once (subst (λ k. Has k (without n xs)) same has) in
        omega arith

-- ---- the classes of the valid calls

abbrev class_or : Option ReadyCall → ℕ
class_or None = 0
class_or (Some call) = class_in call

abbrev valid_classes : List ReadyCall → List Outcome → ℕ → List ℕ
valid_classes calls outs zero = []
valid_classes calls outs (suc n) = cond (is_valid (out_at outs n)) (class_or (slice_get calls n) ∷ valid_classes calls outs n) (valid_classes calls outs n)

same_by : (t : Bool) (c : ℕ) (cs : List ℕ) (k : ℕ) → length cs ≡ k → length (cond t (c ∷ cs) cs) ≡ one_if t + k
same_by true c cs k same = ap suc same ∙ (let e : suc k ≡ 1 + k = omega arith in e)
same_by false c cs k same = same ∙ (let e : k ≡ 0 + k = omega arith in e)

counted : (calls : List ReadyCall) (outs : List Outcome) (n : ℕ) → length (valid_classes calls outs n) ≡ valid_upto outs n
counted calls outs zero = refl
counted calls outs (suc n) = same_by (is_valid (out_at outs n)) (class_or (slice_get calls n)) (valid_classes calls outs n) (valid_upto outs n) (counted calls outs n)

valid_is : (o : Outcome) → is_valid o ≡ true → o ≡ outcomes.Valid
valid_is outcomes.Valid is = refl
valid_is (outcomes.Refused refused) is = absurd cc
valid_is (outcomes.Replay winner) is = absurd cc
valid_is (outcomes.Unread bad) is = absurd cc
valid_is (outcomes.Unasked bad) is = absurd cc

-- the call at an index is valid, and this is its class
record OfValid (calls : List ReadyCall) (outs : List Outcome) (upto c : ℕ) : Type 0 where
  at : ℕ
  below : at < upto
  valid : out_at outs at ≡ outcomes.Valid
  class : c ≡ class_or (slice_get calls at)

further : (calls : List ReadyCall) (outs : List Outcome) (n c : ℕ) → OfValid calls outs n c → OfValid calls outs (suc n) c
further calls outs n c v = record { at = v.at; below = (let b = v.below in omega arith); valid = v.valid; class = v.class }

of_by : (calls : List ReadyCall) (outs : List Outcome) (n c : ℕ) (t : Bool) → is_valid (out_at outs n) ≡ t → (Has c (valid_classes calls outs n) → OfValid calls outs n c)
    → Has c (cond t (class_or (slice_get calls n) ∷ valid_classes calls outs n) (valid_classes calls outs n)) → OfValid calls outs (suc n) c
of_by calls outs n c true is more (inl same) = record { at = n; below = omega arith; valid = valid_is (out_at outs n) is; class = same }
of_by calls outs n c true is more (inr later) = further calls outs n c (more later)
of_by calls outs n c false is more has = further calls outs n c (more has)

of_valid : (calls : List ReadyCall) (outs : List Outcome) (n c : ℕ) → Has c (valid_classes calls outs n) → OfValid calls outs n c
of_valid calls outs zero c has = absurd has
of_valid calls outs (suc n) c has = of_by calls outs n c (is_valid (out_at outs n)) refl (of_valid calls outs n c) has

record StandsAt (calls : List ReadyCall) (at : ℕ) : Type 0 where
  call : ReadyCall
  is : slice_get calls at ≡ Some call

stands_at : (calls : List ReadyCall) (at : ℕ) → at < length calls → StandsAt calls at
stands_at [] at within = absurd (omega arith)
stands_at (c ∷ calls) zero within = record { call = c; is = refl }
stands_at (c ∷ calls) (suc at) within = let more = stands_at calls at (omega arith) in record { call = more.call; is = more.is }

module _ (past : PastView) (calls : List ReadyCall) (outs : List Outcome) (seat : Holder) (claims : HasClaims past calls outs seat) (settled : SeatSettled seat) (numbered : AreNumbered calls)
    (passed : (at : ℕ) (call : ReadyCall) → slice_get calls at ≡ Some call → passes (out_at outs at) ≡ true → is_passed call.screening ≡ true) where
  wins : (at : ℕ) (call : ReadyCall) → slice_get calls at ≡ Some call → out_at outs at ≡ outcomes.Valid → In (pair_of call) seat.wins
  wins at call stands valid = (subst (λ (o : Outcome). Placed past call seat o) valid (claims.each at call stands)).1

  one_winner : (at other : ℕ) (a : StandsAt calls at) (b : StandsAt calls other) → out_at outs at ≡ outcomes.Valid → out_at outs other ≡ outcomes.Valid
      → class_or (slice_get calls at) ≡ class_or (slice_get calls other) → at ≡ other
  one_winner at other a b valid valid_too same =
      let class : class_in a.call ≡ class_in b.call = sym (ap class_or a.is) ∙ same ∙ ap class_or b.is in
      let mine : In (class_in b.call, a.call.number) seat.wins = subst (λ k. In (k, a.call.number) seat.wins) class (wins at a.call a.is valid) in
      numbered at other a.call b.call a.is b.is (settled.agree (class_in b.call) a.call.number b.call.number (inl mine) (inl (wins other b.call b.is valid_too)))

  once_more : (n : ℕ) (t : Bool) → is_valid (out_at outs n) ≡ t → n < length calls → Once (valid_classes calls outs n)
      → Once (cond t (class_or (slice_get calls n) ∷ valid_classes calls outs n) (valid_classes calls outs n))
  once_more n true is within once = (λ has. twice (of_valid calls outs n (class_or (slice_get calls n)) has), once)
    where
      twice : OfValid calls outs n (class_or (slice_get calls n)) → ⊥
      twice v =
          let b = v.below in
          let same : n ≡ v.at = one_winner n v.at (stands_at calls n within) (stands_at calls v.at (omega arith)) (valid_is (out_at outs n) is) v.valid v.class in
          omega arith
  once_more n false is within once = once

  once_valid_classes : (n : ℕ) → n ≤ length calls → Once (valid_classes calls outs n)
  once_valid_classes zero few = tt
  once_valid_classes (suc n) few = once_more n (is_valid (out_at outs n)) refl (omega arith) (once_valid_classes n (omega arith))

  -- at most as many calls are valid as there are classes
  pub valid_most : (spare : ℕ) → HasRoom calls spare → valid_upto outs (length calls) ≤ spare
  valid_most spare room =
      let few : length (valid_classes calls outs (length calls)) ≤ room.classes =
      no_more room.classes (valid_classes calls outs (length calls)) (once_valid_classes (length calls) (omega arith)) (λ c has. below c (of_valid calls outs (length calls) c has)) in
      let many = counted calls outs (length calls) in
      let enough = room.room in
      omega arith
    where
      below_at : (c : ℕ) (v : OfValid calls outs (length calls) c) → StandsAt calls v.at → c < room.classes
      below_at c v a =
          subst (λ k. k < room.classes) (sym (v.class ∙ ap class_or a.is)) (room.each v.at a.call a.is (passed v.at a.call a.is (ap passes v.valid)))

      below : (c : ℕ) → OfValid calls outs (length calls) c → c < room.classes
      below c v = below_at c v (stands_at calls v.at v.below)

-- ---- one call more

rises : (outs : List Outcome) (n k : ℕ) → valid_upto outs n ≤ valid_upto outs (k + n)
rises outs n zero = (let e : 0 + n ≡ n = omega arith in subst (λ m. valid_upto outs n ≤ valid_upto outs m) (sym e) (omega arith))
rises outs n (suc k) =
    let more = rises outs n k in
    let e : suc k + n ≡ suc (k + n) = omega arith in
    subst (λ m. valid_upto outs n ≤ valid_upto outs m) (sym e) (omega arith)

pub room_here : (outs : List Outcome) (total at spare : ℕ) (o : Outcome) → at < total → out_at outs at ≡ o → valid_upto outs total ≤ spare + valid_upto outs at → is_valid o ≡ true → 1 ≤ spare
room_here outs total at spare o within is room valid =
    let own : one_if (is_valid (out_at outs at)) ≡ 1 = ap (λ (x : Outcome). one_if (is_valid x)) is ∙ ap one_if valid in
    let e : (total - suc at) + suc at ≡ total = omega arith in
    let more : valid_upto outs (suc at) ≤ valid_upto outs total = subst (λ m. valid_upto outs (suc at) ≤ valid_upto outs m) e (rises outs (suc at) (total - suc at)) in
    omega arith

pub room_next : (outs : List Outcome) (total at spare spare_now : ℕ) (o : Outcome) → out_at outs at ≡ o → valid_upto outs total ≤ spare + valid_upto outs at
    → spare ≤ spare_now + one_if (is_valid o) → valid_upto outs total ≤ spare_now + valid_upto outs (at + 1)
room_next outs total at spare spare_now o is room less =
    let same : one_if (is_valid (out_at outs at)) ≡ one_if (is_valid o) = ap (λ (x : Outcome). one_if (is_valid x)) is in
    subst (λ m. valid_upto outs total ≤ spare_now + valid_upto outs m) (next at) (omega arith)
