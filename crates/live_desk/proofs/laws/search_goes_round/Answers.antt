use Rattle.live_desk.proofs.Words.{goes_round}
use Rattle.live_desk.proofs.laws.search_goes_round.Goals as goal

pub returns : goal.returns
returns c = goes_round
