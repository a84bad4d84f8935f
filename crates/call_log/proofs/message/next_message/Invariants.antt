-- What was taken is the message so far, and no more than it says.
use Rattle.std.proofs.Common.{◌≤◌, ◌-◌, vec_len}
use Rattle.std.specs.Io.KnownBytes.{Consumes}
use Rattle.call_log.specs.Supply.{Draws, available, supply_of}
use Rattle.call_log.proofs.message.next_message.Given as goal

abbrev pub invariant-loop-message : goal.invariant-loop-message
invariant-loop-message g l = record {
  taken : Consumes (available l.fn.ahead (g.I.Source.left l.fn.source)) (available l.ahead (g.I.Source.left l.source)) l.message.items;
  size : vec_len l.message ≤ l.length;
  draws : Draws (supply_of g.I.Source l.fn.ahead.ended l.fn.source) (supply_of g.I.Source l.ahead.ended l.source);
}

abbrev pub decreases-loop-message : goal.decreases-loop-message
decreases-loop-message g l = l.length - vec_len l.message
