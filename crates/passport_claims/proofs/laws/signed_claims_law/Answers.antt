-- A full token has its payload there, and a compact one that of a call whose numbers are claimed.
use Rattle.passport_claims.proofs.SignedLaws.{claims_signed}
use Rattle.passport_claims.proofs.laws.signed_claims_law.Goals as goal

pub returns : goal.returns
returns c = claims_signed c.signed_law.ensures.full c.signed_law.ensures.compact
