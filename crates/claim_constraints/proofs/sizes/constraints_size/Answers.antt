-- The SEQUENCE of both parts.
use Rattle.std.proofs.Common.{ℕ, List, ◌++◌, length, ap, sym, ◌∙◌, length-append}
use Rattle.der_reader.specs.Tags.{sequence_tag}
use Rattle.claim_constraints.specs.ConstraintsText.{constraints_text, must_part, permits_part}
use Rattle.claim_constraints.specs.Size.{capped}
use Rattle.claim_constraints.proofs.SizeLaws.{both_capped}
use Rattle.claim_constraints.proofs.sizes.constraints_size.Goals as goal

pub returns : goal.returns
unfolding constraints_text
returns c =
    let must : List ℕ = must_part c.args.must.now in
    let permits : List ℕ = permits_part c.args.permits.now in
    c.element_size.ensures sequence_tag (must ++ permits)
    (c.sum.ensures ∙ both_capped c.must_size.result c.permits_size.result (length must) (length permits) c.must_size.ensures c.permits_size.ensures
    ∙ ap capped (sym (length-append must permits)))
