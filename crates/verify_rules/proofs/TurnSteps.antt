-- The PASSporTs one by one, and their order.
use Rattle.std.proofs.Common.{◌≡◌, ℕ, zero, suc, ◌+◌, ◌<◌, ◌≤◌, ◌==◌, false, List, [], ◌∷◌, length, take, drop, get_or, slice_index, Option, Some, None, Ok, Err, refl, sym, ◌∙◌, ap, subst, arith, if◌then◌else◌}
use Rattle.std.specs.List.{All, slice_get}
use Rattle.std.specs.Option.{option_or}
use Rattle.std.proofs.lemmas.Bool.Decides.{nat_tests}
use Rattle.std.proofs.lemmas.List.{drop_all, length-map}
use Rattle.passport_claims.specs.Links.{IsLink, IsOneOf}
use Rattle.passport_claims.specs.OrderReading.{order_of}
use Rattle.passport_claims.specs.OrderSeen.{IsTurn, order_seen}
use Rattle.passport_claims.specs.Passport.{ClaimsView}
use Rattle.passport_claims.specs.declared.order.ChainFault.{ChainFault}
use Rattle.passport_claims.specs.declared.order.Order.{Order}
use Rattle.verify_rules.specs.Call.{Reading, called_by, passport_in, passports_of, turn_of}
use Rattle.verify_rules.specs.Rules.{each, field_at, other_calling, no_order, place, stale}
use Rattle.verify_rules.specs.Screened.{IsTurned}
use Rattle.verify_rules.specs.Seen.{AreLinks, IsChainable}
use Rattle.verify_rules.specs.declared.facts.Facts.{Facts}
use Rattle.verify_rules.specs.declared.refusal.Place.{Place}
use Rattle.verify_rules.specs.declared.settings.Settings.{Settings}

-- ---- a rule on each

step : {A : Type 0} (broken : A → Option Place) (items : List A) (i : ℕ) (one : A) → slice_get items i ≡ Some one
    → each broken (drop i items) ≡ option_or (broken one) (each broken (drop (suc i) items))
step broken [] zero one e = absurd cc
step broken [] (suc i) one e = absurd cc
step broken (item ∷ items) zero one e = let same : item ≡ one = cc in ap (λ x. option_or (broken x) (each broken items)) same
step broken (item ∷ items) (suc i) one e = step broken items i one e

more : {A : Type 0} (broken : A → Option Place) (items : List A) (i : ℕ) (one : A) (all : Option Place) → slice_get items i ≡ Some one → broken one ≡ None
    → each broken (drop i items) ≡ all → each broken (drop (i + 1) items) ≡ all
more broken items i one all e none left =
    let behind : i + 1 ≡ suc i = omega arith in
    ap (λ k. each broken (drop k items)) behind ∙ sym (ap (λ x. option_or x (each broken (drop (suc i) items))) none) ∙ sym (step broken items i one e) ∙ left

here : {A : Type 0} (broken : A → Option Place) (items : List A) (i : ℕ) (one : A) (bad : Place) (all : Option Place) → slice_get items i ≡ Some one → broken one ≡ Some bad
    → each broken (drop i items) ≡ all → Some bad ≡ all
here broken items i one bad all e is left =
    sym (ap (λ x. option_or x (each broken (drop (suc i) items))) is) ∙ sym (step broken items i one e) ∙ left

done : {A : Type 0} (broken : A → Option Place) (items : List A) (i : ℕ) (all : Option Place) → length items ≤ i → each broken (drop i items) ≡ all → None ≡ all
done broken items i all end left = sym (ap (each broken) (drop_all i items end)) ∙ left

pub orig_more : (calling : Option (List ℕ)) (items : List Reading) (i : ℕ) (one : Reading) (o all : Option Place) → slice_get items i ≡ Some one → o ≡ other_calling calling one → o ≡ None
    → each (other_calling calling) (drop i items) ≡ all → each (other_calling calling) (drop (i + 1) items) ≡ all
orig_more calling items i one o all e is none left = more (other_calling calling) items i one all e (sym is ∙ none) left

pub orig_here : (calling : Option (List ℕ)) (items : List Reading) (i : ℕ) (one : Reading) (bad : Place) (o all : Option Place) → slice_get items i ≡ Some one → o ≡ other_calling calling one
    → o ≡ Some bad → each (other_calling calling) (drop i items) ≡ all → Some bad ≡ all
orig_here calling items i one bad o all e is found left = here (other_calling calling) items i one bad all e (sym is ∙ found) left

pub orig_done : (calling : Option (List ℕ)) (items : List Reading) (i : ℕ) (all : Option Place) → length items ≤ i → each (other_calling calling) (drop i items) ≡ all → None ≡ all
orig_done calling items i all end left = done (other_calling calling) items i all end left

pub stale_more : (settings : Settings) (moment : ℕ) (items : List Reading) (i : ℕ) (one : Reading) (o all : Option Place) → slice_get items i ≡ Some one → o ≡ stale settings moment one → o ≡ None
    → each (stale settings moment) (drop i items) ≡ all → each (stale settings moment) (drop (i + 1) items) ≡ all
stale_more settings moment items i one o all e is none left = more (stale settings moment) items i one all e (sym is ∙ none) left

pub stale_here : (settings : Settings) (moment : ℕ) (items : List Reading) (i : ℕ) (one : Reading) (bad : Place) (o all : Option Place) → slice_get items i ≡ Some one → o ≡ stale settings moment one
    → o ≡ Some bad → each (stale settings moment) (drop i items) ≡ all → Some bad ≡ all
stale_here settings moment items i one bad o all e is found left = here (stale settings moment) items i one bad all e (sym is ∙ found) left

pub stale_done : (settings : Settings) (moment : ℕ) (items : List Reading) (i : ℕ) (all : Option Place) → length items ≤ i → each (stale settings moment) (drop i items) ≡ all → None ≡ all
stale_done settings moment items i all end left = done (stale settings moment) items i all end left

-- ---- the order

links_at : (others : List Reading) (k : ℕ) (d : ClaimsView) → AreLinks others → k < length (passports_of others) → IsLink (get_or (passports_of others) k d)
links_at [] k d all within = absurd (omega arith)
links_at (one ∷ others) zero d all within = all.0
links_at (one ∷ others) (suc k) d all within = links_at others k d all.1 (omega arith)

pub rest_links : (readings : List Reading) → IsChainable readings → All IsLink (drop 1 (passports_of readings))
rest_links [] kept = λ k d within. absurd (omega arith)
rest_links (origin ∷ others) kept = λ k d within. links_at others k d kept within

called_is : (said : Facts) (others : List Reading) → (if length (passports_of others) == 0 then said.to else said.target) ≡ called_by said others
called_is said [] = refl
called_is said (one ∷ others) = let some : (length (passports_of (one ∷ others)) == 0) ≡ false = grind (arith, nat_tests) in rw some refl

-- what is asked of the links is asked of the PASSporTs
asked_is : (said : Facts) (readings : List Reading) (called : Option (List ℕ)) (one : Reading) → slice_get readings 0 ≡ Some one
    → called ≡ (if length (drop 1 (passports_of readings)) == 0 then said.to else said.target)
    → order_of one.passport (drop 1 (passports_of readings)) called ≡ turn_of said readings
asked_is said [] called one first c = absurd cc
asked_is said (origin ∷ others) called one first c =
    let same : one ≡ origin = cc in
    ap (λ (x : Reading). order_of x.passport (passports_of others) called) same ∙ ap (order_of origin.passport (passports_of others)) (c ∙ called_is said others)

pub order_is : (said : Facts) (readings : List Reading) (called : Option (List ℕ)) (one : Reading) (order : Order) → slice_get readings 0 ≡ Some one
    → called ≡ (if length (drop 1 (passports_of readings)) == 0 then said.to else said.target)
    → order_seen (Ok order) ≡ order_of one.passport (drop 1 (passports_of readings)) called → turn_of said readings ≡ Ok (take order.length order.turn)
order_is said readings called one order first c e = sym (asked_is said readings called one first c) ∙ sym e

pub order_turned : (readings : List Reading) (order : Order) → 1 ≤ length readings
    → IsTurn (length (drop 1 (passports_of readings))) order → IsTurned readings order.length order.turn
order_turned [] order some turn = absurd (omega arith)
order_turned (origin ∷ others) order some turn =
    let count : order.length ≡ length others = turn.all ∙ length-map others passport_in in
    record {
      all = omega (arith, count);
      few = turn.few;
      turns = turn.turns;
      each = λ at below. subst (λ k. IsOneOf k (slice_index order.turn at)) (sym turn.all) (turn.each at below);
    }

pub no_order_is : (said : Facts) (readings : List Reading) (called : Option (List ℕ)) (one : Reading) (fault : ChainFault) (bad : Place) → slice_get readings 0 ≡ Some one
    → called ≡ (if length (drop 1 (passports_of readings)) == 0 then said.to else said.target)
    → order_seen (Err fault) ≡ order_of one.passport (drop 1 (passports_of readings)) called → bad ≡ place (field_at readings fault.link) fault.kind
    → no_order readings (turn_of said readings) ≡ Some bad
no_order_is said readings called one fault bad first c e f =
    ap (no_order readings) (sym (asked_is said readings called one first c) ∙ sym e) ∙ ap (λ x. Some x) (sym f)

-- ---- the field of a PASSporT

pub field_there : (readings : List Reading) (i : ℕ) (one : Reading) → slice_get readings i ≡ Some one → one.mark.field ≡ field_at readings i
field_there [] zero one e = absurd cc
field_there [] (suc i) one e = absurd cc
field_there (item ∷ readings) zero one e = let same : item ≡ one = cc in ap (λ (x : Reading). x.mark.field) (sym same)
field_there (item ∷ readings) (suc i) one e = field_there readings i one e

pub field_behind : (readings : List Reading) (i : ℕ) → length readings ≤ i → 0 ≡ field_at readings i
field_behind [] i end = refl
field_behind (item ∷ readings) zero end = absurd (omega arith)
field_behind (item ∷ readings) (suc i) end = field_behind readings i (omega arith)
