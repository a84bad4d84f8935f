use Rattle.std.proofs.Common.{◌≡◌, All}
use Rattle.once_run.specs.Work.{OfDesk, joined}
use Rattle.once_run.proofs.gathering.unseat_all.Given as goal

abbrev pub invariant-loop-worker : goal.invariant-loop-worker
invariant-loop-worker l = record {
  desk : l.seat.desk ≡ l.desk;
  seats : All (λ worker. OfDesk l.desk worker.seat) l.workers.items;
  rest : joined l.seat l.workers.items ≡ joined l.initial.seat l.initial.workers.items;
}

abbrev pub decreases-loop-worker : goal.decreases-loop-worker
decreases-loop-worker l = goal.left-loop-worker l
