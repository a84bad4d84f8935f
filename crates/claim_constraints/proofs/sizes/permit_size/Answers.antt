-- The name, and the SEQUENCE of the values.
use Rattle.std.proofs.Common.{length, ap, sym, ◌∙◌, length-append}
use Rattle.der_reader.specs.Elem.{element_text}
use Rattle.der_reader.specs.Tags.{ia5_string_tag, sequence_tag}
use Rattle.claim_constraints.specs.ConstraintsText.{values_text}
use Rattle.claim_constraints.specs.Size.{capped}
use Rattle.claim_constraints.proofs.SizeLaws.{both_capped}
use Rattle.claim_constraints.proofs.sizes.permit_size.Goals as goal

pub returns : goal.returns
returns c =
    c.sum.ensures
    ∙ both_capped _ _ (length (element_text ia5_string_tag c.args.permit.now.claim)) (length (element_text sequence_tag (values_text c.args.permit.now.values)))
    (c.text_size.ensures ia5_string_tag ∙ ap (λ text. capped (length (element_text ia5_string_tag text))) c.claim.ensures)
    (c.element_size.ensures sequence_tag (values_text c.args.permit.now.values) c.values_size.ensures)
    ∙ ap capped (sym (length-append (element_text ia5_string_tag c.args.permit.now.claim) (element_text sequence_tag (values_text c.args.permit.now.values))))
