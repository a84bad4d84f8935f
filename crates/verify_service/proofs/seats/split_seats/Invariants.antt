-- The seats so far and the first one have all parts, and enough is left to halve.
use Rattle.std.proofs.Common.{◌≡◌, ◌+◌, vec_len}
use Rattle.live_desk.specs.Lists.{whole}
use Rattle.verify_service.specs.Prepared.{AreSeats}
use Rattle.verify_service.specs.Ready.{IsFresh, all_shares}
use Rattle.verify_service.proofs.SeatingLaws.{HasLeft}
use Rattle.verify_service.proofs.seats.split_seats.Given as goal

abbrev pub invariant-seats : goal.invariant-seats
invariant-seats l = record {
  counted : vec_len l.seats + 1 ≡ l.index;
  fresh : IsFresh l.desk l.first;
  all : all_shares l.seats.items + l.first.share ≡ whole;
  seats : AreSeats l.desk l.seats.items;
  left : HasLeft l.index l.first.share;
}
