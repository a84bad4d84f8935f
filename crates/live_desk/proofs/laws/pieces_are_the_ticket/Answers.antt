use Rattle.live_desk.proofs.Tickets.{pieces_cut}
use Rattle.live_desk.proofs.laws.pieces_are_the_ticket.Goals as goal

pub returns : goal.returns
returns c = pieces_cut
