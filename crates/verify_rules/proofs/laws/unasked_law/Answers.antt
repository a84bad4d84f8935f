-- A refusal before the PASSporTs' own signatures are asked for.
use Rattle.verify_rules.proofs.UnaskedLaws.{same_before}
use Rattle.verify_rules.proofs.laws.unasked_law.Goals as goal

pub returns : goal.returns
returns c = same_before
