-- The part that is left is where the number may be, and each step left at most half.
use Rattle.std.proofs.Common.{◌-◌}
use Rattle.tn_values.specs.Sides.{sides}
use Rattle.tn_values.proofs.SearchLaws.{Searched}
use Rattle.tn_values.proofs.StepLaws.{Halved}
use Rattle.tn_values.proofs.search.find.Given as goal

abbrev pub invariant-loop-low : goal.invariant-loop-low
invariant-loop-low g l = record {
  searched : Searched (sides l.set l.number) l.first l.behind l.low l.high;
  halved : Halved l.fn.steps l.steps (l.behind - l.first) (l.high - l.low);
}

-- how much is left
abbrev pub decreases-loop-low : goal.decreases-loop-low
decreases-loop-low g l = l.high - l.low
