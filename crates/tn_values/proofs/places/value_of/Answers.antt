use Rattle.std.proofs.Common.{arith}
use Rattle.std.proofs.lemmas.Grind.{common_steps}
use Rattle.tn_values.proofs.ValueLaws.{front_below, value_more, digit_from_48, value_below}
use Rattle.tn_values.proofs.places.value_of.Goals as goal

pub overflow_mul-value : goal.overflow_mul-value
overflow_mul-value c =
    grind (arith, common_steps, front_below c.args.digits.now c.loop-digit.digit-index)

pub overflow_add-value : goal.overflow_add-value
overflow_add-value c =
    grind (arith, common_steps, front_below c.args.digits.now c.loop-digit.digit-index, digit_from_48 c.args.digits.now c.loop-digit.digit-index)

pub loop-digit-preserved : goal.loop-digit-preserved
loop-digit-preserved c =
    grind (arith, common_steps, value_more c.args.digits.now c.loop-digit.digit-index)

pub returns-clause-below : goal.returns-clause-below
returns-clause-below c =
    grind (arith, common_steps, value_below c.args.digits.now c.requires.digits)
