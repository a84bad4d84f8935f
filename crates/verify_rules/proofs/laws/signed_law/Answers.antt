-- What was signed as the last PASSporT, by the laws of the crates below.
use Rattle.verify_rules.proofs.SignedLaws.{known_again}
use Rattle.verify_rules.proofs.laws.signed_law.Goals as goal

pub returns : goal.returns
returns c = known_again c.field_law.ensures c.token_law.ensures c.token_found_law.ensures c.claims_law.ensures c.signed_claims_law.ensures
