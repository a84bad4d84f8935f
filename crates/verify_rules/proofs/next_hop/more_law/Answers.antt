use Rattle.verify_rules.proofs.MoreLaws.{link_more}
use Rattle.verify_rules.proofs.next_hop.more_law.Goals as goal

pub returns : goal.returns
returns c = link_more
