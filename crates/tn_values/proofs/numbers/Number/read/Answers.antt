-- What is read of a text is the number that it stands for.
use Rattle.std.proofs.Common.{sym, ◌∙◌}
use Rattle.tn_values.proofs.CanonLaws.{given, international_again, plain_again, read_alike, ways}
use Rattle.tn_values.proofs.numbers.Number.read.Goals as goal

pub returns-clause-ways : goal.returns-clause-ways
returns-clause-ways c = ways c.args.text.now c.args.local.now c.canonical.result c.canonical.ensures

pub returns-clause-only : goal.returns-clause-only
returns-clause-only c = λ number way. c.canonical.ensures ∙ given c.args.text.now c.args.local.now number way

pub returns-clause-separators : goal.returns-clause-separators
returns-clause-separators c = λ other same. read_alike c.args.text.now other c.args.local.now same ∙ sym c.canonical.ensures

pub returns-clause-international : goal.returns-clause-international
returns-clause-international c = λ number h is. c.canonical.ensures ∙ international_again c.args.text.now number c.args.local.now h is

pub returns-clause-plain : goal.returns-clause-plain
returns-clause-plain c = λ h other. c.canonical.ensures ∙ plain_again c.args.text.now c.args.local.now h other
