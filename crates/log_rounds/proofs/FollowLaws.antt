-- What a judge is to know of the calls of a round.
use Rattle.std.proofs.Common.{◌≡◌, ℕ, suc, ◌+◌, ◌-◌, ◌<◌, ◌≤◌, List, [], ◌∷◌, length, refl, sym, ◌∙◌, ap, arith}
use Rattle.std.specs.List.{slice_get}
use Rattle.call_log.specs.Entry.{Entry}
use Rattle.call_log.specs.Log.{AreCalls, Passed, after, after_all}
use Rattle.log_rounds.specs.Batches.{first_number}
use Rattle.verify_service.specs.Service.{EachFollows, last_entry, last_moment_of, last_number, moment_or, number_or}

pub counted_on : (passed : Passed) (calls : List Entry) → AreCalls passed calls → (after_all passed calls).number ≡ passed.number + length calls
counted_on passed [] a = omega arith
counted_on passed (x ∷ xs) a = omega (arith, counted_on (after passed x) xs a.1, a.0.numbered)

pub follow_of : (passed : Passed) (number moment : ℕ) (calls : List Entry) → number ≡ passed.number → moment ≡ passed.moment → passed.number ≤ 4000000000 + passed.count → AreCalls passed calls → EachFollows number moment calls
follow_of passed number moment [] n m room a = tt
follow_of passed number moment (x ∷ xs) n m room a =
    let next = a.0 in (
      record {
        above = omega (arith, n, next.numbered);
        below = omega (arith, next.numbered, next.room, room);
        not_before = omega (arith, m, next.not_backward);
        within = next.moment_within;
      },
      follow_of (after passed x) x.number x.moment xs refl refl (omega (arith, next.numbered, room)) a.1,
    )

-- the last call is that of those after the first, if there are any
last_behind : (x y : Entry) (ys : List Entry) → last_entry (x ∷ y ∷ ys) ≡ last_entry (y ∷ ys)
last_behind x y ys = let e : length (x ∷ y ∷ ys) - 1 ≡ suc (length (y ∷ ys) - 1) = omega arith in ap (slice_get (x ∷ y ∷ ys)) e

-- The number and the moment of the last call are those that come of taking the calls one by one, from the first on.
pub number_front : (number : ℕ) (x : Entry) (xs : List Entry) → last_number number (x ∷ xs) ≡ last_number x.number xs
number_front number x [] = refl
number_front number x (y ∷ ys) = ap (number_or number) (last_behind x y ys) ∙ number_front number y ys ∙ sym (number_front x.number y ys)

pub moment_front : (moment : ℕ) (x : Entry) (xs : List Entry) → last_moment_of moment (x ∷ xs) ≡ last_moment_of x.moment xs
moment_front moment x [] = refl
moment_front moment x (y ∷ ys) = ap (moment_or moment) (last_behind x y ys) ∙ moment_front moment y ys ∙ sym (moment_front x.moment y ys)

pub number_same : (passed : Passed) (calls : List Entry) → last_number passed.number calls ≡ (after_all passed calls).number
number_same passed [] = refl
number_same passed (x ∷ xs) = number_front passed.number x xs ∙ number_same (after passed x) xs

pub moment_same : (passed : Passed) (calls : List Entry) → last_moment_of passed.moment calls ≡ (after_all passed calls).moment
moment_same passed [] = refl
moment_same passed (x ∷ xs) = moment_front passed.moment x xs ∙ moment_same (after passed x) xs

-- ---- the numbers of a round leave room

pub numbers_fit : (number moment : ℕ) (calls : List Entry) → 0 < length calls → EachFollows number moment calls → first_number calls + length calls ≤ 4294967295
numbers_fit number moment [] some f = absurd (omega (arith, some))
numbers_fit number moment (c ∷ []) some f = omega (arith, f.0.below)
numbers_fit number moment (c ∷ d ∷ cs) some f = omega (arith, f.1.0.above, numbers_fit c.number c.moment (d ∷ cs) (omega arith) f.1)
