use Rattle.stir_drill.specs.Holds.{Holds}
use Rattle.stir_drill.proofs.calls.make_calls.Given as goal

abbrev pub invariant-loop-before : goal.invariant-loop-before
invariant-loop-before l = Holds l.seed l.before l.calls
