use Rattle.live_desk.specs.ClaimSteps.{Descends}
use Rattle.live_desk.proofs.desk.Live.descend.Given as goal

abbrev pub invariant-loop-level : goal.invariant-loop-level
invariant-loop-level l = Descends l.self.size l.ticket l.level l.parent l.initial.seat l.seat
