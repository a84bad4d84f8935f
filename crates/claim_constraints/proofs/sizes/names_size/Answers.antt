-- One more is passed over; at the end all were.
use Rattle.std.proofs.Common.{rules, refl, arith}
use Rattle.der_reader.specs.Tags.{ia5_string_tag}
use Rattle.claim_constraints.specs.ConstraintsText.{itself}
use Rattle.claim_constraints.proofs.SizeLaws.{all_passed, one_passed}
use Rattle.claim_constraints.proofs.sizes.names_size.Goals as goal

pub names-init : goal.names-init
names-init c = (0, refl, omega arith)

pub names-preserved : goal.names-preserved
names-preserved c =
    one_passed ia5_string_tag itself c.args.names.now c.names.index c.text.result.now c.names.invariant.0 _ _ _ c.text.ensures c.names.invariant.1 (c.text_size.ensures ia5_string_tag) c.sum-size.ensures c.names.invariant.2

pub returns : goal.returns
returns c = all_passed ia5_string_tag itself c.args.names.now c.names.index c.names.invariant.0 _ (search rules) c.names.invariant.1 c.names.invariant.2
