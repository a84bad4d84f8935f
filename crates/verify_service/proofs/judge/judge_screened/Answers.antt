-- What is answered, by the verdict over the chains of the round.
use Rattle.verify_service.specs.Ready.{basis_of, provided}
use Rattle.verify_service.proofs.ClaimLaws.{answer_by, own_unasked}
use Rattle.verify_service.proofs.judge.judge_screened.Goals as goal

pub returns-clause-said : goal.returns-clause-said
returns-clause-said g c = answer_by (basis_of c.args.lent.now) (provided g.P.Provider c.args.provider.now c.finish-verdict.new.provider) c.args.moment c.args.screened.now
    c.finish-verdict.result c.settle.result c.settle.ensures.same c.right_law.ensures.unlisted c.screened_law.ensures.judged c.signed_law.ensures c.finish-verdict.ensures.right c.requires.there
    c.finish-verdict.ensures.verdict c.finish-verdict.ensures.causes

pub returns-clause-unasked : goal.returns-clause-unasked
returns-clause-unasked g c = own_unasked c.args.screened.now.readings c.args.lent.now.kept.now c.args.lent.now.cache.now.entries (g.P.Provider.faults c.args.provider.now)
    (g.P.Provider.faults c.finish-verdict.new.provider) c.finish-verdict.result c.settle.result c.requires.parts c.answered.ensures.answered c.settle.ensures.same c.finish-verdict.ensures.causes
