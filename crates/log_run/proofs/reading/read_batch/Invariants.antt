-- The calls so far are the next of the log.
use Rattle.std.proofs.Common.{◌≡◌, ◌≤◌, length}
use Rattle.call_log.specs.Reads.{left_to}
use Rattle.call_log.specs.Supply.{EndsRight, supply_of}
use Rattle.log_run.specs.Reading.{ReadCalls, ReadsOn}
use Rattle.log_run.proofs.reading.read_batch.Given as goal

abbrev pub invariant-loop : goal.invariant-loop
invariant-loop g l = record {
  read : ReadCalls l.fn.reader.passed (left_to l.fn.reader (g.I.Source.left l.fn.input)) (left_to l.reader (g.I.Source.left l.input)) l.reader.passed l.calls.items;
  size : length l.calls.items ≡ l.counter;
  reads_on : ReadsOn l.reader;
  ends : EndsRight (supply_of g.I.Source l.fn.reader.ended l.fn.input) → EndsRight (supply_of g.I.Source l.reader.ended l.input);
  never_falls : g.I.Source.faults l.fn.input ≤ g.I.Source.faults l.input;
}
