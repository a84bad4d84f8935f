use Rattle.delegation.proofs.AuthorityLaws.{own_set}
use Rattle.delegation.proofs.gathering.own_numbers.Goals as goal

pub returns : goal.returns
returns c = own_set c.finish.result c.in_ok-gathered_own.field-0 c.args.entries.now c.in_ok-gathered_own.ensures c.finish.ensures
