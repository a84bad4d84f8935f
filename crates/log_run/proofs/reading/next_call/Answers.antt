-- Nothing was at fault before, so the reader reads on.
use Rattle.log_run.proofs.reading.next_call.Goals as goal

pub returns-clause-behind : goal.returns-clause-behind
returns-clause-behind g c = record { reads = rw c.requires.good at c.next.ensures.reads; hands_out = rw c.requires.good at c.next.ensures.hands_out }

pub returns-clause-moves : goal.returns-clause-moves
returns-clause-moves g c = rw c.requires.good at c.next.ensures.moves

pub returns-clause-failed : goal.returns-clause-failed
returns-clause-failed g c = let rose = rw c.requires.good at c.next.ensures.rose in let drained = rw c.requires.good at c.next.ensures.drained in λ source. record { rose = rose source; drained = drained source }

pub returns-clause-ends : goal.returns-clause-ends
returns-clause-ends g c = c.next.ensures.draws.keeps
