-- The order of a call with one diversion more, and whether the call has been at its number.
use Rattle.std.proofs.Common.{◌≡◌, ℕ, zero, suc, ◌-◌, ◌<◌, ◌≤◌, ◌==◌, true, List, [], ◌∷◌, ◌++◌, length, map, Option, Some, refl, sym, ◌∙◌, ap, arith, inl, inr}
use Rattle.std.specs.Prelude.{slice_index_or}
use Rattle.std.specs.List.{slice_get}
use Rattle.std.specs.Option.{option_map_or}
use Rattle.std.proofs.lemmas.Bool.{or_cases}
use Rattle.std.proofs.lemmas.Bool.Decides.{nat_tests}
use Rattle.std.proofs.lemmas.List.{length-map, map-append}
use Rattle.tn_values.specs.Local.{LocalView}
use Rattle.sip_message.specs.Message.{MessageView}
use Rattle.passport_claims.specs.GoesOn.{GoesOn, IsNewTo}
use Rattle.passport_claims.specs.Links.{AreWithin, IsOneOf, dest_at, dest_of, div_at, div_of}
use Rattle.passport_claims.specs.Order.{IsOrder, is_among}
use Rattle.passport_claims.specs.Passport.{ClaimsView}
use Rattle.verify_rules.specs.Call.{Reading, called_by, facts_of, in_turn, passport_in, passports_of}
use Rattle.verify_rules.specs.Screened.{last_of}
use Rattle.retarget.specs.Onward.{HasBeenAt, led, start, undiverted}

-- ---- one more at the end

at_front : (xs : List Reading) (y d : Reading) (k : ℕ) → k < length xs → slice_index_or (xs ++ y ∷ []) k d ≡ slice_index_or xs k d
at_front [] y d k h = absurd (omega (arith, h))
at_front (x ∷ xs) y d zero h = refl
at_front (x ∷ xs) y d (suc k) h = at_front xs y d k (omega (arith, h))

at_end : (xs : List Reading) (y d : Reading) → slice_index_or (xs ++ y ∷ []) (length xs) d ≡ y
at_end [] y d = refl
at_end (x ∷ xs) y d = at_end xs y d

-- the PASSporT with this number
abbrev numbered : Reading → List Reading → ℕ → Reading
numbered origin others link = slice_index_or (origin ∷ others) link origin

same_turn : (origin link : Reading) (others : List Reading) (turn : List ℕ) → AreWithin (length others) turn
    → map (numbered origin (others ++ link ∷ [])) turn ≡ map (numbered origin others) turn
same_turn origin link others [] w = refl
same_turn origin link others (k ∷ turn) w =
    let high = w.0.high in
    ap (λ (r : Reading). r ∷ map (numbered origin (others ++ link ∷ [])) turn) (at_front (origin ∷ others) link origin k (omega (arith, high)))
    ∙ ap (λ (rs : List Reading). numbered origin others k ∷ rs) (same_turn origin link others turn w.1)

pub turn_more : (origin link : Reading) (others : List Reading) (turn : List ℕ) → AreWithin (length others) turn
    → in_turn (origin ∷ (others ++ link ∷ [])) (turn ++ suc (length others) ∷ []) ≡ in_turn (origin ∷ others) turn ++ link ∷ []
turn_more origin link others turn w =
    ap (λ (rs : List Reading). origin ∷ rs)
    (map-append (numbered origin (others ++ link ∷ [])) turn (suc (length others) ∷ [])
    ∙ ap (λ (rs : List Reading). rs ++ numbered origin (others ++ link ∷ []) (suc (length others)) ∷ []) (same_turn origin link others turn w)
    ∙ ap (λ (r : Reading). map (numbered origin others) turn ++ r ∷ []) (at_end others link origin))

get_end : (xs : List Reading) (y : Reading) → slice_get (xs ++ y ∷ []) (length xs) ≡ Some y
get_end [] y = refl
get_end (x ∷ xs) y = get_end xs y

length_end : (xs : List Reading) (y : Reading) → length (xs ++ y ∷ []) ≡ suc (length xs)
length_end [] y = refl
length_end (x ∷ xs) y = ap (λ n. suc n) (length_end xs y)

-- it is the last
pub last_more : (xs : List Reading) (y : Reading) → last_of (xs ++ y ∷ []) ≡ Some y
last_more xs y =
    let end : length (xs ++ y ∷ []) - 1 ≡ length xs = let n = length_end xs y in omega (arith, n) in
    ap (slice_get (xs ++ y ∷ [])) end ∙ get_end xs y

-- ---- the number that is called

pub called_same : (local : LocalView) (message : MessageView) (xs ys : List Reading) → length xs ≡ length ys
    → called_by (facts_of local message) xs ≡ called_by (facts_of local message) ys
called_same local message [] [] e = refl
called_same local message [] (y ∷ ys) e = absurd (omega (arith, e))
called_same local message (x ∷ xs) [] e = absurd (omega (arith, e))
called_same local message (x ∷ xs) (y ∷ ys) e = refl

-- ---- where the call has been

of_link : (origin : Reading) (others : List Reading) (j : ℕ) → j < length others → slice_get (passports_of others) j ≡ Some (slice_index_or others j origin).passport
of_link origin [] j h = absurd (omega (arith, h))
of_link origin (one ∷ others) zero h = refl
of_link origin (one ∷ others) (suc j) h = of_link origin others j (omega (arith, h))

link_at : (origin : Reading) (others : List Reading) (k : ℕ) → IsOneOf (length (passports_of others)) k → slice_get (passports_of others) (k - 1) ≡ Some (numbered origin others k).passport
link_at origin others zero one = let low = one.low in absurd (omega (arith, low))
link_at origin others (suc j) one =
    let many = length-map others passport_in in
    let high = one.high in
    let before : suc j - 1 ≡ j = omega arith in
    ap (slice_get (passports_of others)) before ∙ of_link origin others j (omega (arith, many, high))

dest_is : (origin : Reading) (others : List Reading) (k : ℕ) → IsOneOf (length (passports_of others)) k → dest_at (passports_of others) k ≡ dest_of (numbered origin others k).passport
unfolding dest_at
dest_is origin others k one = ap (λ o. option_map_or dest_of o []) (link_at origin others k one)

div_is : (origin : Reading) (others : List Reading) (k : ℕ) → IsOneOf (length (passports_of others)) k → div_at (passports_of others) k ≡ div_of (numbered origin others k).passport
unfolding div_at
div_is origin others k one = ap (λ o. option_map_or div_of o []) (link_at origin others k one)

abbrev Led : List ℕ → List Reading → Type 0
Led number links = (at : ℕ) × (link : Reading) × (slice_get links at ≡ Some link) × (dest_of link.passport ≡ number)

later_led : (number : List ℕ) (link : Reading) (links : List Reading) → Led number links → Led number (link ∷ links)
later_led number link links (at, one, is, same) = (suc at, one, is, same)

among_led : (number : List ℕ) (by : ℕ → Reading) (k : ℕ) (turn : List ℕ) → is_among k turn ≡ true → dest_of (by k).passport ≡ number → Led number (map by turn)
among_led number by k [] h same = absurd cc
among_led number by k (other ∷ turn) h same = elim (or_cases (other == k) (is_among k turn) h) [
  | inl here ↦ let e : other ≡ k = grind (arith, nat_tests, here) in (0, by other, refl, ap (λ n. dest_of (by n).passport) e ∙ same)
  | inr others ↦ later_led number (by other) (map by turn) (among_led number by k turn others same)
]

-- a call that hasn't been at a number by its PASSporTs in the order in which it went hasn't by its links
pub new_to : (origin : Reading) (others : List Reading) (earlier number : List ℕ) (turn : List ℕ) (called : Option (List ℕ)) → IsOrder origin.passport (passports_of others) called turn
    → (HasBeenAt earlier number (map (numbered origin others) turn) → ⊥) → IsNewTo (passports_of others) turn earlier number
new_to origin others earlier number [] called o new = λ same. new (undiverted refl (sym same))
new_to origin others earlier number (first ∷ later) called o new = record {
  dests = λ k one same.
      let l = among_led number (numbered origin others) k (first ∷ later) (o.once.each k one) (sym (dest_is origin others k one) ∙ same) in
      new (led l.0 l.1 l.2 l.3);
  start = λ same. new (start (numbered origin others first) refl (sym (div_is origin others first o.once.within.0) ∙ same));
}

pub goes_on : (origin : Reading) (others : List Reading) (turn : List ℕ) (link : ClaimsView) → IsOrder origin.passport (passports_of others) (Some (div_of link)) turn
    → length (in_turn (origin ∷ others) turn) ≤ 8 → (HasBeenAt (div_of link) (dest_of link) (map (numbered origin others) turn) → ⊥)
    → GoesOn origin.passport (passports_of others) turn link
goes_on origin others turn link o few new =
    let as_many = o.once.as_many in
    let turned = length-map turn (numbered origin others) in
    record {
      few = omega (arith, as_many, turned, few);
      order = o;
      new = new_to origin others (div_of link) (dest_of link) turn (Some (div_of link)) o new;
    }
