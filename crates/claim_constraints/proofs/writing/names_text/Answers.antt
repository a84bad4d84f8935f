-- A name is shorter than all, and is one more.
use Rattle.der_reader.specs.Tags.{ia5_string_tag}
use Rattle.std.proofs.Common.{ap, ◌∙◌, ◌++◌, ◌+◌, drop}
use Rattle.der_reader.specs.Elem.{element_text}
use Rattle.claim_constraints.specs.ConstraintsText.{itself, names_text}
use Rattle.claim_constraints.proofs.PlaceLaws.{elements_next, small_at}
use Rattle.claim_constraints.proofs.writing.names_text.Goals as goal

pub put-requires-clause-size : goal.put-requires-clause-size
put-requires-clause-size c = small_at ia5_string_tag itself c.args.names.now c.names.index c.text.result.now c.text.ensures c.requires

pub names-preserved : goal.names-preserved
names-preserved c =
    ap (λ out. out ++ names_text (drop (c.names.index + 1) c.args.names.now)) (c.in_ok-put.ensures.text ∙ ap (λ tag. c.names.out.items ++ element_text tag c.text.result.now) c.tag.ensures)
    ∙ elements_next ia5_string_tag itself c.names.out.items c.args.names.now c.names.index c.text.result.now _ c.text.ensures c.names.invariant
