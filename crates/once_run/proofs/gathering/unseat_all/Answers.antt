use Rattle.std.proofs.Common.{sym, ap, ◌∙◌}
use Rattle.live_desk.specs.Holder.{Holder}
use Rattle.once_run.specs.Work.{OfDesk, joined}
use Rattle.once_run.specs.declared.worker.Worker.{Worker}
use Rattle.once_run.proofs.Seats.{each_front, joined_last, with_desk}
use Rattle.once_run.proofs.gathering.unseat_all.Goals as goal

pub loop-worker-preserved : goal.loop-worker-preserved
loop-worker-preserved c = record {
  desk = ap (λ (h : Holder). h.desk) c.unseat.ensures ∙ (with_desk c.loop-worker.seat c.in-Some.worker.seat ∙ c.loop-worker.invariant.desk);
  seats = each_front (λ (w : Worker). OfDesk c.args.desk.now w.seat) c.loop-worker.workers.items c.pop.new.self.items c.in-Some.worker c.in-Some.ensures.items c.loop-worker.invariant.seats;
  rest = ap (λ (h : Holder). joined h c.pop.new.self.items) c.unseat.ensures
      ∙ (sym (joined_last c.loop-worker.seat c.pop.new.self.items c.in-Some.worker)
      ∙ (ap (joined c.loop-worker.seat) (sym c.in-Some.ensures.items) ∙ c.loop-worker.invariant.rest));
}
