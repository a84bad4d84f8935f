use Rattle.verify_rules.proofs.MovedLaws.{holds_moved, says_same}
use Rattle.verify_rules.proofs.next_hop.moved_law.Goals as goal

pub returns-clause-same : goal.returns-clause-same
returns-clause-same c = says_same

pub returns-clause-holds : goal.returns-clause-holds
returns-clause-holds c = holds_moved
