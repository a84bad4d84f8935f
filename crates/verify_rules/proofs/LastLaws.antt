-- The last of some PASSporTs comes after the others.
use Rattle.std.proofs.Common.{◌≡◌, suc, ◌+◌, ◌-◌, List, [], ◌∷◌, ◌++◌, length, Option, Some, refl, sym, ◌∙◌, ap, arith}
use Rattle.std.specs.List.{slice_get}
use Rattle.std.proofs.lemmas.Option.{same_Some}
use Rattle.verify_rules.specs.Call.{Call, Reading, in_call_order}
use Rattle.verify_rules.specs.LastSecond.{IsLastSecond}
use Rattle.verify_rules.specs.Screened.{iat_or_none, last_of, last_of_call}
use Rattle.verify_rules.specs.Signed.{IsKnownAgain}

abbrev Behind : List Reading → Reading → Type 0
Behind readings one = (earlier : List Reading) × (readings ≡ earlier ++ one ∷ [])

one_more : (first : Reading) (others : List Reading) (one : Reading) → Behind others one → Behind (first ∷ others) one
one_more first others one (earlier, same) = (first ∷ earlier, ap (λ x. first ∷ x) same)

behind : (readings : List Reading) (one : Reading) → last_of readings ≡ Some one → Behind readings one
behind [] one is = absurd (cc)
behind (first ∷ []) one is = ([], ap (λ x. x ∷ []) (same_Some first one is))
behind (first ∷ next ∷ others) one is =
    let place : length (first ∷ next ∷ others) - 1 ≡ suc (length (next ∷ others) - 1) = omega arith in
    one_more first (next ∷ others) one (behind (next ∷ others) one (sym (ap (λ k. slice_get (first ∷ next ∷ others) k) place) ∙ is))

last_by : (call : Call) (readings : List Reading) (one : Reading) → readings ≡ in_call_order call → last_of readings ≡ Some one → IsLastSecond call (last_of_call call)
last_by call readings one same is =
    let h = behind readings one is in record {
      earlier = h.0;
      one = one;
      order = sym same ∙ h.1;
      last_is = sym (ap (λ (x : List Reading). iat_or_none (last_of x) + call.settings.past) same) ∙ ap (λ (x : Option Reading). iat_or_none x + call.settings.past) is;
    }

pub last_second : (call : Call) → IsKnownAgain call → IsLastSecond call (last_of_call call)
last_second call known = last_by call (in_call_order call) known.signed.one refl known.signed.last
