-- One more is passed over; at the end all were.
use Rattle.std.proofs.Common.{rules, refl, arith}
use Rattle.der_reader.specs.Tags.{sequence_tag}
use Rattle.claim_constraints.specs.ConstraintsText.{permit_content}
use Rattle.claim_constraints.proofs.SizeLaws.{all_passed, one_passed}
use Rattle.claim_constraints.proofs.sizes.entries_size.Goals as goal

pub permits-init : goal.permits-init
permits-init c = (0, refl, omega arith)

pub permits-preserved : goal.permits-preserved
permits-preserved c =
    one_passed sequence_tag permit_content c.args.permits.now c.permits.index c.permit-permit.result c.permits.invariant.0 _ _ _ c.permit-permit.ensures c.permits.invariant.1
    (c.element_size.ensures sequence_tag (permit_content c.permit-permit.result) c.permit_size.ensures) c.sum-size.ensures c.permits.invariant.2

pub returns : goal.returns
returns c = all_passed sequence_tag permit_content c.args.permits.now c.permits.index c.permits.invariant.0 _ (search rules) c.permits.invariant.1 c.permits.invariant.2
