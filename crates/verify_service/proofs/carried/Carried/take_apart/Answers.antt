-- The desk says so of the seat, and the seat is the one that contracts see.
use Rattle.std.proofs.Common.{ℕ, subst}
use Rattle.live_desk.specs.Lists.{In}
use Rattle.verify_service.specs.Carried.{CarriedView}
use Rattle.verify_service.proofs.carried.Carried.take_apart.Goals as goal

pub returns-clause-named : goal.returns-clause-named
returns-clause-named c = subst (λ (v : CarriedView). (p : ℕ × ℕ) → In p v.seat.losses → In p v.seat.wins) c.self.view_is c.close.ensures
