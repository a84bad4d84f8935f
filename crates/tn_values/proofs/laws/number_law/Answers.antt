-- What a text stands for.
use Rattle.tn_values.proofs.CanonLaws.{given, stands}
use Rattle.tn_values.proofs.laws.number_law.Goals as goal

pub returns-clause-found : goal.returns-clause-found
returns-clause-found c = stands

pub returns-clause-only : goal.returns-clause-only
returns-clause-only c = given
