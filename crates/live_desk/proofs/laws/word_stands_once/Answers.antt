use Rattle.live_desk.proofs.Words.{one_slot}
use Rattle.live_desk.proofs.laws.word_stands_once.Goals as goal

pub returns : goal.returns
returns c = one_slot
