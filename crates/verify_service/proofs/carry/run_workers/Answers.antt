-- The one seat, and what each worker answered.
use Rattle.std.proofs.Common.{sym, ◌∙◌, arith}
use Rattle.verify_service.specs.Ready.{basis_of}
use Rattle.verify_service.specs.declared.worker.Worker.{Worker}
use Rattle.verify_service.proofs.TogetherLaws.{answered_then, is_joined, joined_is, stays_then, steps_are}
use Rattle.verify_service.proofs.carry.run_workers.Goals as goal

pub unreachable-requires : goal.unreachable-requires
unreachable-requires g c =
    is_joined (λ (w : Worker g.row.P.Denot g.row.G.Denot). w.seat) (λ (w : Worker g.row.P.Denot g.row.G.Denot). w.outcomes) c.args.lent.now.past.now c.args.calls.now c.args.lent.now.desk.now
    c.args.seats.items c.args.workers.now c.seat_all.new.workers c.work_all.new.workers c.join_all.new.workers
    (steps_are c.requires.some (let size = c.args.seats.ok.0 in let many = c.requires.seats in omega arith) c.seat_all.ensures.counted c.work_all.ensures.counted c.join_all.ensures.counted
    c.seat_all.ensures.seats c.requires.own c.work_all.ensures.claimed c.join_all.ensures.outcomes)
    (sym c.join_all.ensures.joined ∙ c.in-None.is)

pub returns : goal.returns
returns g c =
    let joined = joined_is (λ (w : Worker g.row.P.Denot g.row.G.Denot). w.seat) (λ (w : Worker g.row.P.Denot g.row.G.Denot). w.outcomes) c.args.lent.now.past.now c.args.calls.now c.args.lent.now.desk.now
    c.args.seats.items c.args.workers.now c.seat_all.new.workers c.work_all.new.workers c.join_all.new.workers
    (steps_are c.requires.some (let size = c.args.seats.ok.0 in let many = c.requires.seats in omega arith) c.seat_all.ensures.counted c.work_all.ensures.counted c.join_all.ensures.counted
    c.seat_all.ensures.seats c.requires.own c.work_all.ensures.claimed c.join_all.ensures.outcomes)
    c.in-Some.seat (sym c.join_all.ensures.joined ∙ c.in-Some.is) in
    let many = c.seat_all.ensures.counted in
    let worked = c.work_all.ensures.counted in
    record {
      claims = joined.claims;
      share = joined.share;
      desk = joined.own;
      turn = joined.turn;
      answered = λ w d within.
          answered_then (basis_of c.args.lent.now) g.P.Provider c.args.calls.now _ _ w _ _ _ _ _ _ many (c.seat_all.ensures.providers w d within)
          (c.join_all.ensures.providers w d (omega arith)) (c.join_all.ensures.outcomes w d (omega arith)) (c.work_all.ensures.answered w d (omega arith));
      workers = c.join_all.ensures.counted ∙ worked ∙ many;
      provider = λ w d within.
          stays_then g.P.Provider _ _ _ _ (c.seat_all.ensures.providers w d within) (c.join_all.ensures.providers w d (omega arith)) (c.work_all.ensures.provider w d (omega arith));
    }
