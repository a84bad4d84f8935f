use Rattle.std.proofs.Common.{rules}
use Rattle.std.specs.List.Sorted.{IsSortedByKey}
use Rattle.replay_desk.proofs.ListLaws.{cmp_tickets, sorted_rises, ticket_in}
use Rattle.replay_desk.proofs.past.sorted.Goals as goal

pub returns-clause-rises : goal.returns-clause-rises
returns-clause-rises c =
    let s : IsSortedByKey ticket_in cmp_tickets c.sort_unstable.new.self.items = search rules in
    sorted_rises c.args.list.items c.sort_unstable.new.self.items c.sort_unstable.ensures.permutation c.requires s
