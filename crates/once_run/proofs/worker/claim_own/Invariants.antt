use Rattle.std.proofs.Common.{◌≡◌, length}
use Rattle.once_run.specs.Work.{Worked}
use Rattle.once_run.proofs.worker.claim_own.Given as goal

abbrev pub invariant-loop-index : goal.invariant-loop-index
invariant-loop-index l = record {
  desk : l.seat.desk ≡ l.desk;
  share : l.seat.share ≡ l.initial.seat.share;
  claims : length l.claims.items ≡ length l.tickets;
  worked : Worked l.desk.size l.tickets l.count l.worker l.index l.seat l.claims.items;
}
