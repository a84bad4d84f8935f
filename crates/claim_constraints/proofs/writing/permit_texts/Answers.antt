-- A claim with its values is shorter than all, and is one more.
use Rattle.std.proofs.Common.{ap, ◌∙◌, ◌++◌, ◌+◌, drop, length, arith}
use Rattle.der_reader.specs.Elem.{element_text}
use Rattle.der_reader.specs.Tags.{sequence_tag}
use Rattle.claim_constraints.specs.ConstraintsText.{elements, permit_content}
use Rattle.claim_constraints.proofs.PlaceLaws.{elements_next, small_at}
use Rattle.claim_constraints.proofs.writing.permit_texts.Goals as goal

pub permit_content-requires : goal.permit_content-requires
permit_content-requires c = omega (arith, small_at sequence_tag permit_content c.args.permits.now c.permits.index c.permit-permit.result c.permit-permit.ensures c.requires)

pub put-requires-clause-size : goal.put-requires-clause-size
put-requires-clause-size c =
    let small = small_at sequence_tag permit_content c.args.permits.now c.permits.index c.permit-permit.result c.permit-permit.ensures c.requires in
    omega (arith, small, ap length c.deref.ensures.value, ap length c.in_ok-content.ensures)

pub permits-preserved : goal.permits-preserved
permits-preserved c =
    ap (λ out. out ++ elements sequence_tag permit_content (drop (c.permits.index + 1) c.args.permits.now))
    (c.in_ok-put.ensures.text ∙ ap (λ content. c.permits.out.items ++ element_text sequence_tag content) (c.deref.ensures.value ∙ c.in_ok-content.ensures))
    ∙ elements_next sequence_tag permit_content c.permits.out.items c.args.permits.now c.permits.index c.permit-permit.result _ c.permit-permit.ensures c.permits.invariant
