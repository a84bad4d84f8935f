-- The law of authorities.
use Rattle.x509_profile.proofs.AuthorityLaws.{authority_says}
use Rattle.x509_profile.proofs.laws.authority_law.Goals as goal

pub returns : goal.returns
returns c = authority_says
