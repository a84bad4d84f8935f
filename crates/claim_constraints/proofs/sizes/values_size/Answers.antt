-- One more is passed over; at the end all were.
use Rattle.std.proofs.Common.{rules, refl, arith}
use Rattle.claim_constraints.specs.Form.{utf8_string_tag}
use Rattle.claim_constraints.specs.ConstraintsText.{itself}
use Rattle.claim_constraints.proofs.SizeLaws.{all_passed, one_passed}
use Rattle.claim_constraints.proofs.sizes.values_size.Goals as goal

pub values-init : goal.values-init
values-init c = (0, refl, omega arith)

pub values-preserved : goal.values-preserved
values-preserved c =
    one_passed utf8_string_tag itself c.args.permit.now.values c.values.index c.value.result.now c.values.invariant.0 _ _ _ c.value.ensures c.values.invariant.1 (c.text_size.ensures utf8_string_tag) c.sum-size.ensures c.values.invariant.2

pub returns : goal.returns
returns c = all_passed utf8_string_tag itself c.args.permit.now.values c.values.index c.values.invariant.0 _ (search rules) c.values.invariant.1 c.values.invariant.2
