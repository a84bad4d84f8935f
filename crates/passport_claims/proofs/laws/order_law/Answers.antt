-- What is given is an order, and an order is given.
use Rattle.passport_claims.proofs.OrderFaultLaws.{order_of_found}
use Rattle.passport_claims.proofs.OrderLaws.{order_again}
use Rattle.passport_claims.proofs.laws.order_law.Goals as goal

pub returns : goal.returns
returns c = λ origin links called turn. (order_of_found origin links called turn, order_again origin links called turn)
