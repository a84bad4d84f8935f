-- What is read of an order that is handed in.
use Rattle.std.proofs.Common.{◌≡◌, Bool, true, false, Option, Some, None, sym, ◌∙◌, subst}
use Rattle.std.proofs.lemmas.Option.{same_Some}
use Rattle.auth_service.specs.Order.{OrderView, is_order}
use Rattle.tn_values.specs.Local.{LocalView}
use Rattle.open_calls.specs.Order.{Given, IsNoOrder, IsOrderOf, order_in}

pub no_order : (given : Given) (local : LocalView) → None ≡ order_in given local → IsNoOrder given local
no_order given local none order holds = let other : ◌≡◌ {A = Option OrderView} None (Some order) = none ∙ holds.read in cc

true_is_not_false : true ≡ false → ⊥
true_is_not_false e = cc

pub not_valid : (given : Given) (local : LocalView) (order : OrderView) (valid : Bool) → Some order ≡ order_in given local → valid ≡ is_order order → valid ≡ false → IsNoOrder given local
not_valid given local order valid some tried bad other holds =
    let is : other ≡ order = same_Some other order (sym (some ∙ holds.read)) in
    true_is_not_false (sym (subst (λ (o : OrderView). is_order o ≡ true) is holds.valid) ∙ (sym tried ∙ bad))

pub is_read : (given : Given) (local : LocalView) (order : OrderView) (valid : Bool) → Some order ≡ order_in given local → valid ≡ is_order order → valid ≡ true
    → IsOrderOf given local order
is_read given local order valid some tried good = record { read = sym some; valid = sym tried ∙ good }
