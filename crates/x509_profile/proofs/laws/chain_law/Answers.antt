-- The certificates that are read are the chain.
use Rattle.x509_profile.proofs.ChainLaws.{chain_found}
use Rattle.x509_profile.proofs.laws.chain_law.Goals as goal

pub returns-clause-found : goal.returns-clause-found
returns-clause-found c = chain_found
