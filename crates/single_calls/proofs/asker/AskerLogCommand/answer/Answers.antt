-- What is asked for one call more was written, or a file stopped that.
use Rattle.std.proofs.Common.{◌≡◌, [], ◌∷◌, rules}
use Rattle.std.proofs.lemmas.Grind.{common_steps}
use Rattle.single_calls.proofs.AskerLaws.{asked_more, asked_stops}
use Rattle.single_calls.proofs.SinglyLaws.{if_err, if_ok}
use Rattle.single_calls.proofs.asker.AskerLogCommand.answer.Goals as goal

pub returns-clause-adds : goal.returns-clause-adds
returns-clause-adds g c =
    let one : c.args.calls.now ≡ c.call-item.result ∷ [] = search (rules, common_steps) in
    if_ok _ _ c.ask.result
    (λ written o first before batches known. rw one (asked_more _ _ _ _ _ _ _ batches c.call-item.result written c.ask.ensures.shelf.counts.faults.never_falls c.ask.ensures.same o known))
    c.ask.ensures.asked

pub returns-clause-stopped : goal.returns-clause-stopped
returns-clause-stopped g c =
    let one : c.args.calls.now ≡ c.call-item.result ∷ [] = search (rules, common_steps) in
    if_err _ _ c.ask.result
    (λ stop o first before batches known. rw one (asked_stops _ _ _ _ _ _ batches c.call-item.result stop c.ask.ensures.shelf.counts.faults.never_falls o known))
    c.ask.ensures.stopped
