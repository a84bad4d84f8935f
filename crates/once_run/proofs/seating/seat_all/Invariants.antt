use Rattle.std.proofs.Common.{◌≡◌, ◌≤◌, ◌+◌, ◌-◌, ◌^◌, All, length}
use Rattle.live_desk.specs.Lists.{total, whole}
use Rattle.once_run.specs.Work.{Seated, share_of}
use Rattle.once_run.proofs.seating.seat_all.Given as goal

abbrev pub invariant-loop : goal.invariant-loop
invariant-loop l = record {
  desk : l.seat.desk ≡ l.desk;
  sets : l.seat.sets ≡ l.initial.seat.sets;
  counted : length l.workers.items ≡ l.counter;
  seated : All (Seated l.desk l.tickets) l.workers.items;
  shares : l.seat.share + total share_of l.workers.items ≡ whole;
  enough : 2 ^ (32 - l.counter) ≤ l.seat.share;
}
