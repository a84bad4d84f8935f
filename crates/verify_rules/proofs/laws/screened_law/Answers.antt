-- What the rules of the call say in every world.
use Rattle.verify_rules.proofs.WorldLaws.{judged_by, last_is, ticket_is}
use Rattle.verify_rules.proofs.WorldVerdict.{first_early}
use Rattle.verify_rules.proofs.laws.screened_law.Goals as goal

pub returns : goal.returns
returns c = record { refused = first_early; judged = judged_by; ticket = ticket_is; last = last_is }
