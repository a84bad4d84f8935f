-- A byte that is no further digit ends the number or breaks it off, and a further digit brings it nearer its end.
use Rattle.call_log.proofs.NumberSteps.{breaks_off, few_digits, nearer, no_digit}
use Rattle.call_log.proofs.digits.next_number.Goals as goal

pub returns-then-digits-eq0-clause-number : goal.returns-then-digits-eq0-clause-number
returns-then-digits-eq0-clause-number g c =
    let byte = rw c.in-Some.is at c.in_ok-byte.ensures.byte in
    no_digit _ _ _ _ _ _ c.requires.most c.requires.last c.loop-byte.invariant.took (rw c.if-byte-last.true at byte) c.if-digits-eq0.true

pub with-requires-clause-count : goal.with-requires-clause-count
with-requires-clause-count g c = (few_digits _ _ _ _ c.requires.most c.loop-byte.invariant.took).0

pub returns-in_default-with-clause-number : goal.returns-in_default-with-clause-number
returns-in_default-with-clause-number g c =
    let byte = rw c.in-Some.is at c.in_ok-byte.ensures.byte in
    breaks_off _ c.in-Some.byte _ _ _ _ _ c.requires.last c.loop-byte.invariant.took byte c.if-byte-last.false c.in_default-with.ensures

pub loop-byte-smaller : goal.loop-byte-smaller
loop-byte-smaller g c = nearer _ c.in-Some.byte _ _ _ _ c.requires.most c.loop-byte.invariant.took c.in-Some-with.ensures
