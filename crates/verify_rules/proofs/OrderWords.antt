-- What the holding of rule 8 means: the links have an order.
use Rattle.std.proofs.Common.{◌≡◌, ◌↔◌, ℕ, List, [], ◌∷◌, Option, None, Result, Ok, Err, refl, ap}
use Rattle.passport_claims.specs.Order.{IsOrder}
use Rattle.passport_claims.specs.OrderReading.{order_of}
use Rattle.passport_claims.specs.Passport.{ClaimsView}
use Rattle.passport_claims.specs.declared.order.ChainFault.{ChainFault}
use Rattle.verify_rules.specs.Call.{Reading, called_by, passports_of, turn_of}
use Rattle.verify_rules.specs.Rules.{no_order}
use Rattle.verify_rules.specs.Words.{HasOrder}
use Rattle.verify_rules.specs.declared.facts.Facts.{Facts}

abbrev pub OrderLaw : Type 0
OrderLaw = (origin : ClaimsView) (links : List ClaimsView) (called : Option (List ℕ)) (turn : List ℕ) → (order_of origin links called ≡ Ok turn) ↔ IsOrder origin links called turn

order_by : OrderLaw → (said : Facts) (origin : Reading) (others : List Reading) (k : Result (List ℕ) ChainFault) → turn_of said (origin ∷ others) ≡ k → no_order (origin ∷ others) k ≡ None
    → HasOrder said (origin ∷ others)
order_by law said origin others (Ok turn) e h = (turn, (law origin.passport (passports_of others) (called_by said others) turn).0 e)
order_by law said origin others (Err fault) e h = absurd cc

pub order_means : OrderLaw → (said : Facts) (readings : List Reading) → (no_order readings (turn_of said readings) ≡ None) ↔ HasOrder said readings
order_means law said [] = ((λ h. tt), (λ h. refl))
order_means law said (origin ∷ others) = (
  order_by law said origin others (turn_of said (origin ∷ others)) refl,
  (λ (h : HasOrder said (origin ∷ others)).
      ap (no_order (origin ∷ others)) ((law origin.passport (passports_of others) (called_by said others) h.0).1 h.1)),
)
