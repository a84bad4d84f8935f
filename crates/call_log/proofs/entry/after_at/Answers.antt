-- The moment goes on to the length, or it breaks off.
use Rattle.std.proofs.Common.{ap}
use Rattle.call_log.proofs.EntrySteps.{hands_on, moment_fails, moment_goes_on, moment_stops}
use Rattle.call_log.proofs.entry.after_at.Goals as goal

pub returns-in_err-moment-clause-found : goal.returns-in_err-moment-clause-found
returns-in_err-moment-clause-found g c = hands_on _ _ _ _ _ _ c.from_residual.ensures.1 (moment_fails _ _ _ c.in_err-moment.ensures.number)

pub returns-in_default-clause-found : goal.returns-in_default-clause-found
returns-in_default-clause-found g c =
    let taken = rw c.in_default.is at c.in_ok-moment.ensures.number in
    moment_stops _ _ _ _ (ap (λ p. p.place) c.passed.view_is) c.requires.count taken

pub returns-clause-found : goal.returns-clause-found
returns-clause-found g c =
    let taken = rw c.in-Some.is at c.in_ok-moment.ensures.number in
    moment_goes_on _ _ _ _ _ _ taken.taken c.after_moment.ensures.found
