use Rattle.live_desk.specs.HeldSteps.{Follows}
use Rattle.live_desk.proofs.desk.Live.held_exactly.Given as goal

abbrev pub invariant-loop-level : goal.invariant-loop-level
invariant-loop-level l = Follows l.self.size l.ticket l.level l.parent l.initial.seat l.seat
