-- The rows so far, and how many lines are left.
use Rattle.std.proofs.Common.{length}
use Rattle.cert_store.specs.MapReading.{Reached}
use Rattle.cert_store.proofs.map.ChainMap.read_first.Given as goal

abbrev pub invariant-loop-line : goal.invariant-loop-line
invariant-loop-line l = Reached l.text l.lines l.map

abbrev pub decreases-loop-line : goal.decreases-loop-line
decreases-loop-line l = length l.lines
