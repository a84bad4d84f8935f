-- What is read is what a PASSporT says, and what one says is read.
use Rattle.passport_claims.proofs.ClaimsLaws.{claims_again, claims_only}
use Rattle.passport_claims.proofs.laws.claims_law.Goals as goal

pub returns : goal.returns
returns c = λ header payload ppt info claims known. (claims_only header payload ppt info claims known, claims_again header payload ppt info claims)
