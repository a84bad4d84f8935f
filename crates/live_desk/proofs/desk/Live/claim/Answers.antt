use Rattle.std.proofs.Common.{◌≡◌, ℕ, ap, ◌∙◌, subst, arith}
use Rattle.live_desk.specs.Known.{Known}
use Rattle.live_desk.specs.Holder.{Holder, LiveDesk}
use Rattle.live_desk.proofs.Exactly.{claimed_of}
use Rattle.live_desk.proofs.desk.Live.claim.Goals as goal

pub returns : goal.returns
returns c =
    let after = c.claim_exactly-answer.new.seat in
    let size : after.desk.size ≡ c.args.self.now.size = ap (λ (h : Holder). h.desk.size) c.claim_exactly-answer.ensures.gained ∙ ap (λ (d : LiveDesk). d.size) c.requires.desk in
    let known = subst (λ (n : ℕ). Known n after.sets after.seen after.share) size c.settled.ensures.known in
    claimed_of c.args.self.now.size (omega (arith, ap (λ (d : LiveDesk). d.size) c.self.view_is, c.self.invariant.2)) c.args.ticket.now (record { bytes = c.told-ticket; small = c.fits-ticket }) c.args.seat.now after known c.claim_exactly-answer.result c.claim_exactly-answer.ensures
