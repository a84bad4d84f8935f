-- One seat more is split off the first.
use Rattle.std.proofs.Common.{◌+◌, ◌<◌, List, sym, ap, ◌∙◌, subst, arith}
use Rattle.replay_desk.specs.Holder.{Holder}
use Rattle.verify_service.specs.Prepared.{AreSeats}
use Rattle.verify_service.specs.Ready.{HaveSeats, all_shares}
use Rattle.verify_service.proofs.SeatingLaws.{all_first, all_next, enough, fresh_next, have_last, left_next, left_whole, seats_first, seats_last, seats_next}
use Rattle.verify_service.proofs.seats.split_seats.Goals as goal

pub seats-init : goal.seats-init
seats-init c = record {
  counted = (let none = c.in_ok-seats.ensures.len in omega arith);
  fresh = c.requires.fresh;
  all = all_first c.in_ok-seats.seats.items c.args.first.share c.in_ok-seats.ensures.items c.requires.share;
  seats = seats_first c.args.desk.now c.in_ok-seats.seats.items c.in_ok-seats.ensures.items;
  left = left_whole c.args.first.share c.requires.share;
}

pub split-requires-clause-share : goal.split-requires-clause-share
split-requires-clause-share c = let many = enough c.seats.index c.seats.first.share c.seats.invariant.left in omega arith

pub seats-preserved : goal.seats-preserved
seats-preserved c =
    let desk = c.args.desk.now in
    let first = c.seats.first in
    let now = c.split.new.seat in
    let other = c.in_ok-seat.seat in
    let index = c.seats.index in
    let test = c.seats-test.true in
    let few = c.requires.few in
    let below : index < 8 = omega arith in
    let left = c.split.ensures.left in
    let right = c.in_ok-seat.ensures.right in
    let items = c.in_ok-push.ensures.items in
    record {
      counted = (let more = c.in_ok-push.ensures.len in let so_far = c.seats.invariant.counted in omega arith);
      fresh = fresh_next desk first now left c.seats.invariant.fresh;
      all = ap (λ (l : List Holder). all_shares l + now.share) items ∙ all_next c.seats.seats.items first now other left right c.seats.invariant.all;
      seats = subst (λ (l : List Holder). AreSeats desk l) (sym items)
          (seats_next desk index c.seats.seats.items first other right below c.seats.invariant.fresh c.seats.invariant.left c.seats.invariant.seats);
      left = left_next desk index first now other left below c.seats.invariant.left;
    }

pub returns-clause-all : goal.returns-clause-all
returns-clause-all c =
    subst (HaveSeats c.args.desk.now) (sym c.in_ok-push-2.ensures.items)
    (have_last c.args.desk.now c.seats.index c.seats.seats.items c.seats.first c.seats.invariant.fresh c.seats.invariant.left c.seats.invariant.seats c.seats.invariant.all)

pub returns-clause-seats : goal.returns-clause-seats
returns-clause-seats c =
    subst (λ (l : List Holder). AreSeats c.args.desk.now l) (sym c.in_ok-push-2.ensures.items)
    (seats_last c.args.desk.now c.seats.index c.seats.seats.items c.seats.first c.seats.invariant.fresh c.seats.invariant.left c.seats.invariant.seats)
