-- What was taken so far, and no more than the limit.
use Rattle.std.proofs.Common.{◌≤◌, ◌-◌, vec_len}
use Rattle.stir_outside.specs.Count.{GoesOn}
use Rattle.stir_outside.specs.Told.{Takes}
use Rattle.stir_outside.proofs.transfer.read_up_to.Given as goal

abbrev pub invariant-loop-block : goal.invariant-loop-block
invariant-loop-block g l = record {
  limited : vec_len l.bytes ≤ l.limit;
  taken : Takes (g.I.Source.left l.fn.source) (g.I.Source.left l.source) l.fn.bytes.items l.bytes.items;
  goes_on : GoesOn (g.I.Source.faults l.fn.source) (g.I.Source.faults l.source);
}

abbrev pub decreases-loop-block : goal.decreases-loop-block
decreases-loop-block g l = l.limit - vec_len l.bytes
