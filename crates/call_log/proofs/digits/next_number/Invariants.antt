-- The digits so far were taken. They are at most 13.
use Rattle.std.proofs.Common.{◌-◌}
use Rattle.call_log.specs.Supply.{Draws, available, supply_of}
use Rattle.call_log.proofs.NumberSteps.{Took}
use Rattle.call_log.proofs.digits.next_number.Given as goal

abbrev pub invariant-loop-byte : goal.invariant-loop-byte
invariant-loop-byte g l = record {
  took : Took l.most (available l.fn.ahead (g.I.Source.left l.fn.source)) (available l.ahead (g.I.Source.left l.source)) l.digits;
  draws : Draws (supply_of g.I.Source l.fn.ahead.ended l.fn.source) (supply_of g.I.Source l.ahead.ended l.source);
}

abbrev pub decreases-loop-byte : goal.decreases-loop-byte
decreases-loop-byte g l = 14 - l.digits.count
