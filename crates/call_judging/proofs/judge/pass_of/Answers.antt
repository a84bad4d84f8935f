-- A call that passes is known again by its last PASSporT.
use Rattle.call_judging.proofs.JudgeLaws.{known_by}
use Rattle.call_judging.proofs.judge.pass_of.Goals as goal

pub returns-clause-ticket : goal.returns-clause-ticket
returns-clause-ticket c = λ call passed. known_by c.args.screened.now call c.ticket.result.now c.last.result (c.screened_law.ensures.ticket call c.args.screened.now passed)
    c.ticket.ensures (c.screened_law.ensures.last call c.args.screened.now passed) c.last.ensures

pub returns-clause-signed : goal.returns-clause-signed
returns-clause-signed c = λ call passed. c.signed_law.ensures call passed.0
