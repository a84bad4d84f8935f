use Rattle.live_desk.specs.ClaimSteps.{Passes}
use Rattle.live_desk.proofs.desk.Live.settle.Given as goal

abbrev pub invariant-loop-tries : goal.invariant-loop-tries
invariant-loop-tries l = Passes l.self.size l.level l.code l.tries l.initial.seat l.seat
