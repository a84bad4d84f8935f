-- The new link comes after the others, and so it is read; and taken away it leaves the others as they were.
use Rattle.passport_claims.proofs.GoesOnLaws.{order_less, order_more, order_of_more}
use Rattle.passport_claims.proofs.laws.one_link_more_law.Goals as goal

pub returns-clause-order : goal.returns-clause-order
returns-clause-order c = λ origin links turn link. (order_more origin links turn link, order_less origin links turn link)

pub returns-clause-exact : goal.returns-clause-exact
returns-clause-exact c = order_of_more
