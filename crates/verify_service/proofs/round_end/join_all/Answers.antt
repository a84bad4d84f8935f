-- One seat more is joined.
use Rattle.std.proofs.Common.{◌<◌, ◌+◌, Option, drop, get_or, length, map, refl, sym, ap, ◌∙◌, arith}
use Rattle.replay_desk.specs.Holder.{Holder}
use Rattle.verify_service.specs.Carrying.{joined_from}
use Rattle.verify_service.specs.declared.worker.Worker.{Worker}
use Rattle.verify_service.proofs.SeatLaws.{at_next, joined_next, rest_next, set_many}
use Rattle.verify_service.proofs.round_end.join_all.Goals as goal

pub workers-preserved : goal.workers-preserved
workers-preserved g c =
    let ws = c.workers.workers in
    let before = c.args.workers.now in
    let w = c.workers.w in
    let test = c.workers-test.true in
    let many = c.workers.invariant.counted in
    let within : w < length ws = omega arith in
    let inside : w < length before = omega arith in
    record {
      end = c.workers.invariant.end ∙ sym (set_many c.workers.workers c.workers.w (record (get_or c.workers.workers c.workers.w c.index-workers-w.result) { seat = c.take-other.new.self }));
      counted = set_many c.workers.workers c.workers.w (record (get_or c.workers.workers c.workers.w c.index-workers-w.result) { seat = c.take-other.new.self }) ∙ many;
      rest = rest_next c.workers.workers c.args.workers.now c.workers.w (record (get_or c.workers.workers c.workers.w c.index-workers-w.result) { seat = c.take-other.new.self }) c.workers.invariant.rest;
      desk = c.join_two-seat.ensures.desk;
      joined = ap (λ (o : Option Holder). joined_from o (map (λ (v : Worker g.row.P.Denot g.row.G.Denot). v.seat) (drop (c.workers.w + 1) c.args.workers.now))) c.join_two-seat.ensures.joined
          ∙ joined_next (λ (v : Worker g.row.P.Denot g.row.G.Denot). v.seat) c.workers.workers c.args.workers.now c.workers.w c.index-workers-w.result c.workers.seat c.take-other.result _ inside
          c.workers.invariant.rest c.workers.invariant.joined c.take-other.ensures.value;
      outcomes = λ k d less. at_next (λ (v : Worker g.row.P.Denot g.row.G.Denot). v.outcomes) c.workers.workers c.args.workers.now c.workers.w k
          (record (get_or c.workers.workers c.workers.w c.index-workers-w.result) { seat = c.take-other.new.self }) c.index-workers-w.result d within refl (c.workers.invariant.outcomes k d less);
      providers = λ k d less. at_next (λ (v : Worker g.row.P.Denot g.row.G.Denot). v.provider) c.workers.workers c.args.workers.now c.workers.w k
          (record (get_or c.workers.workers c.workers.w c.index-workers-w.result) { seat = c.take-other.new.self }) c.index-workers-w.result d within refl (c.workers.invariant.providers k d less);
    }
