-- The law of the PASSporTs of one field.
use Rattle.verify_rules.proofs.OneField.{one_field}
use Rattle.verify_rules.proofs.laws.one_field_law.Goals as goal

pub returns : goal.returns
returns c = one_field
