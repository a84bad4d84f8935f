use Rattle.std.proofs.Common.{subst}
use Rattle.live_desk.specs.Holder.{Holder, Settled}
use Rattle.live_desk.proofs.Meaning.{known_once}
use Rattle.live_desk.proofs.desk.LiveSeat.settled.Goals as goal

pub returns-clause-once : goal.returns-clause-once
returns-clause-once c =
    let h : Holder = c.args.self.now in
    known_once h.desk.size h.sets h.seen h.share (subst (λ (g : Holder). Settled g) c.self.view_is c.self.invariant.1)
