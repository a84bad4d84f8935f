-- The codes of the rules.
use Rattle.verify_rules.proofs.CodeLaws.{has_code}
use Rattle.verify_rules.proofs.laws.code_law.Goals as goal

pub returns : goal.returns
returns c = has_code
