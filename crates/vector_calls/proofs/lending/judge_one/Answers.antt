-- What a call claims leaves its seat on its desk.
use Rattle.vector_calls.proofs.SeatLaws.{desk_stays}
use Rattle.vector_calls.proofs.lending.judge_one.Goals as goal

pub returns : goal.returns
returns c = record {
  desk = desk_stays c.args.prepared.now.calls c.args.index c.args.service.now.past c.args.seat.now c.judge.new.seat c.judge.result c.args.prepared.now.desk
      c.requires.index c.judge.ensures.claims c.requires.desk;
}
