use Rattle.std.proofs.Common.{arith}
use Rattle.std.proofs.lemmas.Grind.{common_steps}
use Rattle.tn_values.proofs.LocalFacts.{country_is_number}
use Rattle.tn_values.proofs.numbering.Local.new.Goals as goal

-- the country is a number, so the other arm isn't reached
pub returns-in-None : goal.returns-in-None
returns-in-None c = grind (arith, common_steps, country_is_number c.args.country.now c.args.national)
