-- The batches so far were full, and were answered and written of.
use Rattle.std.proofs.Common.{◌≡◌, ◌-◌}
use Rattle.call_log.specs.Entry.{most_entries}
use Rattle.call_log.specs.Reads.{left_to}
use Rattle.call_log.specs.Supply.{EndsRight, supply_of}
use Rattle.log_run.specs.Streams.{streams}
use Rattle.log_run.specs.Reading.{ReadsOn}
use Rattle.log_run.specs.Running.{RunsOn, at}
use Rattle.stir_outside.specs.Stays.{ShelfStays}
use Rattle.log_run.proofs.batches.run_batches.Given as goal

abbrev pub invariant-batches : goal.invariant-batches
invariant-batches g l = record {
  runs : RunsOn (g.C.LogCommand.most l.fn.command)
      (g.C.LogCommand.behind l.fn.command (g.S.Shelf.counts l.fn.shelf) l.command (g.S.Shelf.counts l.shelf) (g.S.Shelf.files l.fn.shelf))
      (at l.fn.reader.passed (g.I.Source.left l.fn.input) (left_to l.fn.reader (g.I.Source.left l.fn.input)) l.fn.all_good)
      (at l.reader.passed (g.I.Source.left l.input) (left_to l.reader (g.I.Source.left l.input)) l.all_good)
      (streams (g.I.Source.faults l.fn.input) (g.O.Sink.written l.fn.sink) (g.O.Sink.faults l.fn.sink))
      (streams (g.I.Source.faults l.input) (g.O.Sink.written l.sink) (g.O.Sink.faults l.sink));
  reads_on : ReadsOn l.reader;
  stands : g.C.LogCommand.stands l.command (g.S.Shelf.counts l.shelf) (g.S.Shelf.files l.shelf) l.reader.passed;
  most : g.C.LogCommand.most l.command ≡ g.C.LogCommand.most l.fn.command;
  ends : EndsRight (supply_of g.I.Source l.fn.reader.ended l.fn.input) → EndsRight (supply_of g.I.Source l.reader.ended l.input);
  shelf : ShelfStays g.S.Shelf l.fn.shelf l.shelf;
}

-- each full batch has some of the calls that a log may have
abbrev pub decreases-batches : goal.decreases-batches
decreases-batches g l = most_entries - l.reader.passed.count
