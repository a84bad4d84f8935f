-- What each worker answered is in the outcomes.
use Rattle.std.proofs.Common.{length, vec_len, slice_index_or}
use Rattle.verify_service.specs.Ready.{basis_of, provided}
use Rattle.verify_service.proofs.TogetherLaws.{answered_of_all, gathered_as, head_of}
use Rattle.verify_service.proofs.carry.carry_calls.Goals as goal

pub returns-clause-claims : goal.returns-clause-claims
returns-clause-claims g c =
    let d = head_of c.args.workers.now c.requires.some in
    c.run_workers-seat.ensures.claims d c.gather-outcomes.result.items
    (gathered_as (λ w. (slice_index_or c.run_workers-seat.new.workers w d).outcomes) (length c.args.workers.now) (length c.run_workers-seat.new.workers) (length c.args.calls.now)
    (vec_len c.args.outcomes) c.gather-outcomes.result.items c.run_workers-seat.ensures.workers c.requires.outcomes (λ at within. c.gather-outcomes.ensures.each at d within))

pub returns-clause-turn : goal.returns-clause-turn
returns-clause-turn g c = λ one.
    let d = head_of c.args.workers.now c.requires.some in
    c.run_workers-seat.ensures.turn d c.gather-outcomes.result.items one
    (gathered_as (λ w. (slice_index_or c.run_workers-seat.new.workers w d).outcomes) (length c.args.workers.now) (length c.run_workers-seat.new.workers) (length c.args.calls.now)
    (vec_len c.args.outcomes) c.gather-outcomes.result.items c.run_workers-seat.ensures.workers c.requires.outcomes (λ at within. c.gather-outcomes.ensures.each at d within))

pub returns-clause-answered : goal.returns-clause-answered
returns-clause-answered g c = λ w d within.
    answered_of_all (basis_of c.args.lent.now)
    (provided g.P.Provider (slice_index_or c.args.workers.now w d).provider (slice_index_or c.run_workers-seat.new.workers w d).provider) c.args.calls.now (length c.args.workers.now) w
    (λ v. (slice_index_or c.run_workers-seat.new.workers v d).outcomes) c.gather-outcomes.result.items
    (gathered_as (λ v. (slice_index_or c.run_workers-seat.new.workers v d).outcomes) (length c.args.workers.now) (length c.run_workers-seat.new.workers) (length c.args.calls.now)
    (vec_len c.args.outcomes) c.gather-outcomes.result.items c.run_workers-seat.ensures.workers c.requires.outcomes (λ at less. c.gather-outcomes.ensures.each at d less))
    (c.run_workers-seat.ensures.answered w d within)
