-- A round changes nothing of what the workers' providers say.
use Rattle.vector_calls.proofs.WorkerLaws.{say_still}
use Rattle.vector_calls.proofs.logs.judge_round.Goals as goal

pub returns-in_err-round-clause-same : goal.returns-in_err-round-clause-same
returns-in_err-round-clause-same g c =
    say_still c.args.workers.now c.round.new.workers c.round.ensures.workers c.requires.same (λ w d less. (c.round.ensures.provider w d less).says)

pub returns-clause-same : goal.returns-clause-same
returns-clause-same g c =
    say_still c.args.workers.now c.round.new.workers c.round.ensures.workers c.requires.same (λ w d less. (c.round.ensures.provider w d less).says)

pub returns-in_err-push-clause-same : goal.returns-in_err-push-clause-same
returns-in_err-push-clause-same g c =
    say_still c.args.workers.now c.round.new.workers c.round.ensures.workers c.requires.same (λ w d less. (c.round.ensures.provider w d less).says)
