-- The laws of the chains of a call.
use Rattle.call_judging.proofs.ReadLaws.{right_next, right_none}
use Rattle.call_judging.proofs.laws.chains_law.Goals as goal

pub returns-clause-none : goal.returns-clause-none
returns-clause-none c = right_none

pub returns-clause-next : goal.returns-clause-next
returns-clause-next c = λ told told_now materials says says_now readings states i passport x5u state.
    right_next told told_now materials says says_now readings states i passport x5u state c.right_law.ensures.more
