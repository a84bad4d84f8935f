-- One round more was judged.
use Rattle.log_rounds.proofs.BatchesLaws.{if_err, if_ok, stands_on}
use Rattle.log_rounds.proofs.HandedLaws.{hands_more, hands_stopped}
use Rattle.log_rounds.proofs.handing.HandingVerifierLogCommand.answer.Goals as goal

pub returns-clause-adds : goal.returns-clause-adds
returns-clause-adds g c =
    if_ok _ _ c.answer_round.result
    (λ answer o first before batches known. hands_more c.more_rounds.ensures _ _ _ _ _ _ _ batches c.args.calls.now answer o c.answer_round.ensures.same known)
    c.answer_round.ensures.judged

pub returns-clause-stands : goal.returns-clause-stands
returns-clause-stands g c =
    if_ok _ _ c.answer_round.result
    (λ answer o passed s follow. stands_on c.args.self.now.verifier c.answer_round.new.self (g.S.Shelf.counts c.args.shelf.now) (g.S.Shelf.counts c.answer_round.new.shelf) _ _ _ passed o.moves c.answer_round.ensures.trusts s follow)
    c.answer_round.ensures.judged

pub returns-clause-stopped : goal.returns-clause-stopped
returns-clause-stopped g c =
    if_err _ _ c.answer_round.result
    (λ stop memory first before batches known. hands_stopped first.verifier c.args.self.now.verifier before (g.S.Shelf.counts c.args.shelf.now) (g.S.Shelf.counts c.answer_round.new.shelf) _ batches c.args.calls.now stop memory
    c.answer_round.ensures.shelf.counts.faults.never_falls c.answer_round.ensures.most known) c.answer_round.ensures.memory
