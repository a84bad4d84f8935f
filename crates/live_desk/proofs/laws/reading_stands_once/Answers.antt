use Rattle.live_desk.proofs.Words.{one_reading}
use Rattle.live_desk.proofs.laws.reading_stands_once.Goals as goal

pub returns : goal.returns
returns c = one_reading
