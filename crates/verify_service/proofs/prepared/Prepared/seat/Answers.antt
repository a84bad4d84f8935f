-- A round from which a seat was taken stays the newest.
use Rattle.std.proofs.Common.{ap}
use Rattle.verify_service.specs.Prepared.{PreparedView}
use Rattle.verify_service.proofs.PreparedLaws.{newest_as}
use Rattle.verify_service.proofs.prepared.Prepared.seat.Goals as goal

pub returns-clause-newest : goal.returns-clause-newest
returns-clause-newest c = λ service newest.
    newest_as service c.args.self.now _ (ap (λ (p : PreparedView). p.calls) c.self.view_is) (ap (λ (p : PreparedView). p.kept) c.self.view_is) newest
