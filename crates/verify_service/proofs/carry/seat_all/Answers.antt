-- One seat more is given.
use Rattle.std.proofs.Common.{◌<◌, length, refl, sym, ◌∙◌, arith}
use Rattle.verify_service.specs.declared.worker.Worker.{Worker}
use Rattle.verify_service.proofs.SeatLaws.{at_next, first_stands, given_next, left_next, set_many}
use Rattle.verify_service.proofs.carry.seat_all.Goals as goal

pub workers-preserved : goal.workers-preserved
workers-preserved g c =
    let ws = c.workers.workers in
    let before = c.args.workers.now in
    let seats = c.args.seats.items in
    let w = c.workers.w in
    let test = c.workers-test.true in
    let counted = c.workers.invariant.counted in
    let within : w < length ws = omega arith in
    let size = c.args.seats.ok.0 in
    let many = c.requires.counted in
    let inside : w < length seats = omega arith in
    let stands = first_stands c.workers.seats.items seats w c.remove-seat.result c.workers.invariant.left inside c.remove-seat.ensures.value in
    record {
      end = c.workers.invariant.end ∙ sym (set_many ws w _);
      counted = set_many ws w _ ∙ counted;
      many = (let less = c.remove-seat.ensures.len in let so_far = c.workers.invariant.many in omega arith);
      left = left_next c.workers.seats.items c.remove-seat.new.self.items seats w c.workers.invariant.left c.remove-seat.ensures.items;
      given = λ k d below.
          given_next (λ (v : Worker g.row.P.Denot g.row.G.Denot). v.seat) ws seats w k _ d c.remove-seat.result within refl stands (λ less. c.workers.invariant.given k d less) below;
      providers = λ k d less. at_next (λ (v : Worker g.row.P.Denot g.row.G.Denot). v.provider) ws before w k _ c.index-workers-w.result d within refl (c.workers.invariant.providers k d less);
    }
