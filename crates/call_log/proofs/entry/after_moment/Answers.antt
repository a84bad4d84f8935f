-- The length ends the header, or it breaks off.
use Rattle.std.proofs.Common.{ap}
use Rattle.call_log.proofs.EntrySteps.{backward, hands_on, header_goes_on, length_fails, length_stops}
use Rattle.call_log.proofs.entry.after_moment.Goals as goal

pub returns-in_err-length-clause-found : goal.returns-in_err-length-clause-found
returns-in_err-length-clause-found g c = hands_on _ _ _ _ _ _ c.from_residual.ensures.1 (length_fails _ _ _ _ c.requires.moment.within c.in_err-length.ensures.number)

pub returns-in_default-clause-found : goal.returns-in_default-clause-found
returns-in_default-clause-found g c =
    let taken = rw c.in_default.is at c.in_ok-length.ensures.number in
    length_stops _ _ _ _ _ (ap (λ p. p.place) c.passed.view_is) c.requires.moment.within c.requires.count taken

pub returns-then-moment-passed-clause-found : goal.returns-then-moment-passed-clause-found
returns-then-moment-passed-clause-found g c =
    let taken = rw c.in-Some.is at c.in_ok-length.ensures.number in
    let same = ap (λ p. p.moment) c.passed.view_is in
    backward _ _ _ _ _ _ (ap (λ p. p.place) c.passed.view_is) c.requires.count c.requires.moment.within taken.number.within (rw same at c.if-moment-passed.true) taken.taken

pub returns-clause-found : goal.returns-clause-found
returns-clause-found g c =
    let taken = rw c.in-Some.is at c.in_ok-length.ensures.number in
    header_goes_on _ _ _ _ _ _ _ taken.taken c.after_header.ensures.found
