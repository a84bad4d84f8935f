-- Digits that `parse` refuses write a number above 64 bits.
use Rattle.std.proofs.Common.{arith, rules}
use Rattle.text_grammar.proofs.DecimalLaws.{number_unparsed}
use Rattle.text_grammar.proofs.decimal.parsed.Goals as goal

pub returns-in_default-parse-2 : goal.returns-in_default-parse-2
returns-in_default-parse-2 c = number_unparsed _ c.args.most c.args.text.now c.in-Ok.digits.now c.in_default-parse.field-0 c.in-Ok.ensures.cases.0 (omega arith) (search rules) c.in_default-parse.ensures.value.0
