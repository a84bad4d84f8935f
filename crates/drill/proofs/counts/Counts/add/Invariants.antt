-- What is left gives what all give.
use Rattle.std.proofs.Common.{◌≡◌, drop}
use Rattle.drill.specs.Counts.{with_all}
use Rattle.drill.proofs.counts.Counts.add.Given as goal

abbrev pub invariant-loop-outcome : goal.invariant-loop-outcome
invariant-loop-outcome l = with_all l.self (drop l.outcome-index l.outcomes) ≡ with_all l.initial.self l.outcomes
