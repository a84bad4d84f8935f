-- One round more was judged.
use Rattle.log_rounds.proofs.BatchesLaws.{adds, if_err, if_ok, stands_on, stopped}
use Rattle.log_rounds.proofs.judging.LogVerifierLogCommand.answer.Goals as goal

pub returns-clause-adds : goal.returns-clause-adds
returns-clause-adds g c =
    if_ok _ _ c.answer_round.result
    (λ answer o first before batches known. adds c.more_rounds.ensures _ _ _ _ _ _ _ batches c.args.calls.now answer o c.answer_round.ensures.same known)
    c.answer_round.ensures.judged

pub returns-clause-stands : goal.returns-clause-stands
returns-clause-stands g c =
    if_ok _ _ c.answer_round.result
    (λ answer o passed s follow. stands_on c.args.self.now c.answer_round.new.self (g.S.Shelf.counts c.args.shelf.now) (g.S.Shelf.counts c.answer_round.new.shelf) _ _ _ passed o.moves c.answer_round.ensures.trusts s follow)
    c.answer_round.ensures.judged

pub returns-clause-stopped : goal.returns-clause-stopped
returns-clause-stopped g c =
    if_err _ _ c.answer_round.result
    (λ stop memory first before batches known. stopped first c.args.self.now before (g.S.Shelf.counts c.args.shelf.now) (g.S.Shelf.counts c.answer_round.new.shelf) _ batches c.args.calls.now stop memory
    c.answer_round.ensures.shelf.counts.faults.never_falls c.answer_round.ensures.most known) c.answer_round.ensures.memory
