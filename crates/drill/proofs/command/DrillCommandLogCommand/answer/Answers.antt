-- One round more was judged and counted.
use Rattle.log_rounds.proofs.BatchesLaws.{follows, if_err, if_ok, stands_on}
use Rattle.drill.proofs.CommandLaws.{counted_more, counting_stopped}
use Rattle.drill.proofs.command.DrillCommandLogCommand.answer.Goals as goal

pub count_round-requires-clause-follow : goal.count_round-requires-clause-follow
count_round-requires-clause-follow g c κs within = follows _ _ _ c.requires.some c.requires.few c.requires.follow

pub count_round-requires-clause-trusts : goal.count_round-requires-clause-trusts
count_round-requires-clause-trusts g c κs within = c.requires.follow.stands.trusts

pub returns-clause-adds : goal.returns-clause-adds
returns-clause-adds g c =
    if_ok _ _ c.count_round.result
    (λ answer o first before batches known. counted_more c.more_rounds.ensures c.count_law.ensures.both first c.args.self.now c.count_round.new.self before (g.S.Shelf.counts c.args.shelf.now) (g.S.Shelf.counts c.count_round.new.shelf) _ batches c.args.calls.now answer
    o.0 o.1 o.2 c.count_round.ensures.same c.count_round.ensures.total known)
    c.count_round.ensures.counted

pub returns-clause-stands : goal.returns-clause-stands
returns-clause-stands g c =
    if_ok _ _ c.count_round.result
    (λ answer o passed s follow. stands_on c.args.self.now.verifier c.count_round.new.self.verifier (g.S.Shelf.counts c.args.shelf.now) (g.S.Shelf.counts c.count_round.new.shelf) _ _ _ passed o.2.moves c.count_round.ensures.trusts s follow)
    c.count_round.ensures.counted

pub returns-clause-stopped : goal.returns-clause-stopped
returns-clause-stopped g c =
    if_err _ _ c.count_round.result
    (λ stop memory first before batches known. counting_stopped first c.args.self.now before (g.S.Shelf.counts c.args.shelf.now) (g.S.Shelf.counts c.count_round.new.shelf) _ batches c.args.calls.now stop memory
    c.count_round.ensures.shelf.counts.faults.never_falls c.count_round.ensures.most known) c.count_round.ensures.memory
