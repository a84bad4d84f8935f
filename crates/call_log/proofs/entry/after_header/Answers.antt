-- The message ends the entry, or it is cut off.
use Rattle.std.proofs.Common.{ap, arith}
use Rattle.call_log.proofs.EntrySteps.{found, hands_on, message_fails, short}
use Rattle.call_log.proofs.HeaderLaws.{entry_size, size_of}
use Rattle.call_log.proofs.entry.after_header.Goals as goal

pub returns-in_err-message-clause-found : goal.returns-in_err-message-clause-found
returns-in_err-message-clause-found g c =
    hands_on _ _ _ _ _ _ c.from_residual.ensures.1 (message_fails _ _ _ _ _ c.in_err-message.field-0.0 c.requires.moment.within c.requires.length.within c.in_err-message.ensures.message)

pub returns-in_default-clause-found : goal.returns-in_default-clause-found
returns-in_default-clause-found g c =
    let taken = rw c.in_default.is at c.in_ok-message.ensures.message in
    short _ _ _ _ _ _ (ap (λ p. p.place) c.passed.view_is) c.requires.count c.requires.moment.within c.requires.length.within c.requires.forward taken.0 taken.1

pub overflow_add-size : goal.overflow_add-size
overflow_add-size g c = omega (arith, entry_size _ _ c.requires.moment c.requires.length)

pub overflow_add-size-2 : goal.overflow_add-size-2
overflow_add-size-2 g c = omega (arith, entry_size _ _ c.requires.moment c.requires.length)

pub overflow_add-size-3 : goal.overflow_add-size-3
overflow_add-size-3 g c = omega (arith, entry_size _ _ c.requires.moment c.requires.length)

pub invariant_of-result : goal.invariant_of-result
invariant_of-result g c =
    let taken = rw c.in-Some.is at c.in_ok-message.ensures.message in
    size_of _ _ _ _ _ c.new-call.ensures taken.0 c.requires.moment.size c.requires.length.size

pub returns-clause-found : goal.returns-clause-found
returns-clause-found g c =
    let taken = rw c.in-Some.is at c.in_ok-message.ensures.message in
    found _ _ _ _ _ _ _ _ c.new-call.ensures (ap (λ p. p.number) c.passed.view_is) c.requires.count c.requires.moment.within c.requires.length.within c.requires.forward taken.0 taken.1
