-- What was written so far is what comes before the rest.
use Rattle.std.proofs.Common.{length}
use Rattle.stir_outside.specs.Count.{GoesOn}
use Rattle.stir_outside.proofs.Transfers.{WrittenBefore}
use Rattle.stir_outside.proofs.transfer.write_whole.Given as goal

abbrev pub invariant-loop-rest : goal.invariant-loop-rest
invariant-loop-rest g l = record {
  written : WrittenBefore (g.O.Sink.written l.fn.sink) (g.O.Sink.written l.sink) l.text l.rest;
  goes_on : GoesOn (g.O.Sink.faults l.fn.sink) (g.O.Sink.faults l.sink);
}

abbrev pub decreases-loop-rest : goal.decreases-loop-rest
decreases-loop-rest g l = length l.rest
