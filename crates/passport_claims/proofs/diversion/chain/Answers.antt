-- Each fault is the answer, and the link that shows it is one of them.
use Rattle.passport_claims.proofs.OrderFaultAgain.{fault_only}
use Rattle.passport_claims.proofs.OrderFaultLaws.{link_found}
use Rattle.passport_claims.proofs.diversion.chain.Goals as goal

pub returns-clause-fault : goal.returns-clause-fault
returns-clause-fault c = fault_only c.args.origin.now c.args.links.now c.args.called c.chain_of.result c.chain_of.ensures.exact

pub returns-clause-link : goal.returns-clause-link
returns-clause-link c = link_found c.args.origin.now c.args.links.now c.args.called c.chain_of.result c.chain_of.ensures.exact
