-- The first that something makes of the PASSporTs and their chains.
use Rattle.std.proofs.Common.{◌≡◌, ℕ, zero, suc, ◌+◌, ◌≤◌, List, [], ◌∷◌, length, take, drop, Option, Some, None, refl, sym, ◌∙◌, ap, arith}
use Rattle.std.specs.List.{slice_get}
use Rattle.std.specs.Option.{option_or}
use Rattle.std.proofs.lemmas.List.{drop_all}
use Rattle.verify_rules.specs.Call.{Reading}
use Rattle.verify_rules.specs.Late.{first_of}
use Rattle.verify_rules.specs.States.{State}
use Rattle.verify_rules.specs.declared.late.Event.{Event}
use Rattle.verify_rules.specs.declared.late.Event.TheVariants.{Unread}
use Rattle.verify_rules.specs.declared.refusal.Place.{Place}

-- ---- one more

step : (at : Reading → State → Option Event) (readings : List Reading) (states : List State) (i : ℕ) (one : Reading) (state : State) → slice_get readings i ≡ Some one → slice_get states i ≡ Some state
    → first_of at (drop i readings) (drop i states) ≡ option_or (at one state) (first_of at (drop (suc i) readings) (drop (suc i) states))
step at [] states zero one state e f = absurd cc
step at [] states (suc i) one state e f = absurd cc
step at (item ∷ items) [] zero one state e f = absurd cc
step at (item ∷ items) [] (suc i) one state e f = absurd cc
step at (item ∷ items) (other ∷ others) zero one state e f =
    let same : item ≡ one = cc in
    let like : other ≡ state = cc in
    ap (λ x. option_or (at x other) (first_of at items others)) same ∙ ap (λ x. option_or (at one x) (first_of at items others)) like
step at (item ∷ items) (other ∷ others) (suc i) one state e f = step at items others i one state e f

pub more : (at : Reading → State → Option Event) (readings : List Reading) (states : List State) (i : ℕ) (one : Reading) (state : State) (all : Option Event) → slice_get readings i ≡ Some one
    → slice_get states i ≡ Some state → at one state ≡ None → first_of at (drop i readings) (drop i states) ≡ all → first_of at (drop (i + 1) readings) (drop (i + 1) states) ≡ all
more at readings states i one state all e f none left =
    let behind : i + 1 ≡ suc i = omega arith in
    ap (λ k. first_of at (drop k readings) (drop k states)) behind ∙ sym (ap (λ x. option_or x (first_of at (drop (suc i) readings) (drop (suc i) states))) none)
    ∙ sym (step at readings states i one state e f) ∙ left

pub here : (at : Reading → State → Option Event) (readings : List Reading) (states : List State) (i : ℕ) (one : Reading) (state : State) (event : Event) (all : Option Event)
    → slice_get readings i ≡ Some one → slice_get states i ≡ Some state → at one state ≡ Some event → first_of at (drop i readings) (drop i states) ≡ all → Some event ≡ all
here at readings states i one state event all e f is left =
    sym (ap (λ x. option_or x (first_of at (drop (suc i) readings) (drop (suc i) states))) is) ∙ sym (step at readings states i one state e f) ∙ left

pub done : (at : Reading → State → Option Event) (readings : List Reading) (states : List State) (i : ℕ) (all : Option Event) → length readings ≤ i
    → first_of at (drop i readings) (drop i states) ≡ all → None ≡ all
done at readings states i all end left = sym (ap (λ (x : List Reading). first_of at x (drop i states)) (drop_all i readings end)) ∙ left

-- ---- nothing up to here

pub both_none : {A : Type 0} (one later : Option A) → option_or one later ≡ None → (one ≡ None) × (later ≡ None)
both_none None later e = (refl, e)
both_none (Some one) later e = absurd cc

front_next : (at : Reading → State → Option Event) (readings : List Reading) (states : List State) (i : ℕ) (one : Reading) (state : State) → slice_get readings i ≡ Some one
    → slice_get states i ≡ Some state → at one state ≡ None → first_of at (take i readings) (take i states) ≡ None → first_of at (take (suc i) readings) (take (suc i) states) ≡ None
front_next at [] states zero one state e f none before = absurd cc
front_next at [] states (suc i) one state e f none before = absurd cc
front_next at (item ∷ items) [] zero one state e f none before = absurd cc
front_next at (item ∷ items) [] (suc i) one state e f none before = absurd cc
front_next at (item ∷ items) (other ∷ others) zero one state e f none before =
    let same : item ≡ one = cc in
    let like : other ≡ state = cc in
    ap (λ x. option_or (at x other) None) same ∙ ap (λ x. option_or (at one x) None) like ∙ ap (λ x. option_or x None) none
front_next at (item ∷ items) (other ∷ others) (suc i) one state e f none before =
    let both = both_none (at item other) (first_of at (take i items) (take i others)) before in
    ap (λ x. option_or x (first_of at (take (suc i) items) (take (suc i) others))) both.0 ∙ front_next at items others i one state e f none both.1

pub front : (at : Reading → State → Option Event) (readings : List Reading) (states : List State) (i : ℕ) (one : Reading) (state : State) → slice_get readings i ≡ Some one
    → slice_get states i ≡ Some state → at one state ≡ None → first_of at (take i readings) (take i states) ≡ None → first_of at (take (i + 1) readings) (take (i + 1) states) ≡ None
front at readings states i one state e f none before =
    let behind : i + 1 ≡ suc i = omega arith in
    ap (λ k. first_of at (take k readings) (take k states)) behind ∙ front_next at readings states i one state e f none before

-- ---- where it is

-- at this PASSporT and its chain
pub record Found (at : Reading → State → Option Event) (readings : List Reading) (states : List State) (event : Event) : Type 0 where
  pub index : ℕ
  pub one : Reading
  pub state : State
  pub is : slice_get readings index ≡ Some one
  pub chain : slice_get states index ≡ Some state
  pub gives : at one state ≡ Some event

found_by : (at : Reading → State → Option Event) (item : Reading) (items : List Reading) (other : State) (others : List State) (event : Event) (o : Option Event) → at item other ≡ o
    → (first_of at items others ≡ Some event → Found at items others event) → option_or o (first_of at items others) ≡ Some event → Found at (item ∷ items) (other ∷ others) event
found_by at item items other others event None e below h =
    let f = below h in record { index = suc f.index; one = f.one; state = f.state; is = f.is; chain = f.chain; gives = f.gives }
found_by at item items other others event (Some x) e below h =
    record { index = 0; one = item; state = other; is = refl; chain = refl; gives = e ∙ h }

pub found : (at : Reading → State → Option Event) (readings : List Reading) (states : List State) (event : Event) → first_of at readings states ≡ Some event → Found at readings states event
found at [] states event h = absurd cc
found at (item ∷ items) [] event h = absurd cc
found at (item ∷ items) (other ∷ others) event h = found_by at item items other others event (at item other) refl (found at items others event) h

pub none_at : (at : Reading → State → Option Event) (readings : List Reading) (states : List State) (i : ℕ) (one : Reading) (state : State) → first_of at readings states ≡ None
    → slice_get readings i ≡ Some one → slice_get states i ≡ Some state → at one state ≡ None
none_at at [] states zero one state h e f = absurd cc
none_at at [] states (suc i) one state h e f = absurd cc
none_at at (item ∷ items) [] zero one state h e f = absurd cc
none_at at (item ∷ items) [] (suc i) one state h e f = absurd cc
none_at at (item ∷ items) (other ∷ others) zero one state h e f =
    let same : item ≡ one = cc in
    let like : other ≡ state = cc in
    ap (λ x. at one x) (sym like) ∙ ap (λ x. at x other) (sym same) ∙ (both_none (at item other) (first_of at items others) h).0
none_at at (item ∷ items) (other ∷ others) (suc i) one state h e f = none_at at items others i one state (both_none (at item other) (first_of at items others) h).1 e f

-- ---- what it is

-- what can't be read, twice, is at one place
pub unread_same : (a b : Place) → Some (Unread a) ≡ Some (Unread b) → b ≡ a
unread_same a b e = cc
