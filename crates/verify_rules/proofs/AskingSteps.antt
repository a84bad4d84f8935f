-- One PASSporT more of those whose signatures are asked for.
use Rattle.std.proofs.Common.{◌≡◌, ℕ, ◌+◌, ◌≤◌, List, length, take, drop, Option, Some, None, sym, ◌∙◌, ap}
use Rattle.std.specs.List.{slice_get}
use Rattle.cert_store.specs.Rules.{Says}
use Rattle.verify_rules.specs.Call.{Reading}
use Rattle.verify_rules.specs.Late.{asking, at_asking}
use Rattle.verify_rules.specs.Rules.{place}
use Rattle.verify_rules.specs.States.{State}
use Rattle.verify_rules.specs.Verdict.{HasLeaf, IsOpenAt}
use Rattle.verify_rules.specs.declared.late.Event.{Event}
use Rattle.verify_rules.specs.declared.refusal.Place.{Place}
use Rattle.verify_rules.proofs.FirstOf.{done, front, here, more}

-- the answer is that of a provider that says the same
same_answer : (says now : Says) (one : Reading) (state : State) (o answer : Option Event) → now ≡ says → o ≡ at_asking now one state → o ≡ answer → at_asking says one state ≡ answer
same_answer says now one state o answer same is gives = sym (ap (λ (x : Says). at_asking x one state) same) ∙ sym is ∙ gives

pub asking_more : (says now : Says) (readings : List Reading) (states : List State) (i : ℕ) (one : Reading) (state : State) (o all : Option Event) → now ≡ says
    → slice_get readings i ≡ Some one → slice_get states i ≡ Some state → o ≡ at_asking now one state → o ≡ None
    → asking says (drop i readings) (drop i states) ≡ all → asking says (drop (i + 1) readings) (drop (i + 1) states) ≡ all
asking_more says now readings states i one state o all same e f is none left = more (at_asking says) readings states i one state all e f (same_answer says now one state o None same is none) left

pub asking_front : (says now : Says) (readings : List Reading) (states : List State) (i : ℕ) (one : Reading) (state : State) (o : Option Event) → now ≡ says
    → slice_get readings i ≡ Some one → slice_get states i ≡ Some state → o ≡ at_asking now one state → o ≡ None
    → asking says (take i readings) (take i states) ≡ None → asking says (take (i + 1) readings) (take (i + 1) states) ≡ None
asking_front says now readings states i one state o same e f is none before = front (at_asking says) readings states i one state e f (same_answer says now one state o None same is none) before

pub asking_here : (says now : Says) (readings : List Reading) (states : List State) (i : ℕ) (one : Reading) (state : State) (event : Event) (o all : Option Event) → now ≡ says
    → slice_get readings i ≡ Some one → slice_get states i ≡ Some state → o ≡ at_asking now one state → o ≡ Some event
    → asking says (drop i readings) (drop i states) ≡ all → Some event ≡ all
asking_here says now readings states i one state event o all same e f is some left =
    here (at_asking says) readings states i one state event all e f (same_answer says now one state o (Some event) same is some) left

pub asking_done : (says : Says) (readings : List Reading) (states : List State) (i : ℕ) (all : Option Event) → length readings ≤ i → asking says (drop i readings) (drop i states) ≡ all → None ≡ all
asking_done says readings states i all end left = done (at_asking says) readings states i all end left

-- the question failed, and those before it are signed
pub asking_open : (says : Says) (readings : List Reading) (states : List State) (i : ℕ) (one : Reading) (state : State) (bad : Place) → slice_get readings i ≡ Some one
    → slice_get states i ≡ Some state → HasLeaf state → asking says (take i readings) (take i states) ≡ None → bad ≡ place one.mark.field 0 → IsOpenAt says readings states bad
asking_open says readings states i one state bad e f leaf before is =
    record { at = i; here = one; is = e; place = is; state = state; chain = f; asked = leaf; before = before }
