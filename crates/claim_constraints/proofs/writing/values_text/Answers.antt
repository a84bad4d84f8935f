-- A value is shorter than all, and is one more.
use Rattle.std.proofs.Common.{ap, ◌∙◌, ◌++◌, ◌+◌, drop}
use Rattle.der_reader.specs.Elem.{element_text}
use Rattle.claim_constraints.specs.ConstraintsText.{itself, values_text}
use Rattle.claim_constraints.specs.Form.{utf8_string_tag}
use Rattle.claim_constraints.proofs.PlaceLaws.{elements_next, small_at}
use Rattle.claim_constraints.proofs.writing.values_text.Goals as goal

pub put-requires-clause-size : goal.put-requires-clause-size
put-requires-clause-size c = small_at utf8_string_tag itself c.args.permit.now.values c.values.index c.value.result.now c.value.ensures c.requires

pub values-preserved : goal.values-preserved
values-preserved c =
    ap (λ out. out ++ values_text (drop (c.values.index + 1) c.args.permit.now.values)) (c.in_ok-put.ensures.text ∙ ap (λ tag. c.values.out.items ++ element_text tag c.value.result.now) c.tag.ensures)
    ∙ elements_next utf8_string_tag itself c.values.out.items c.args.permit.now.values c.values.index c.value.result.now _ c.value.ensures c.values.invariant
