-- The SEQUENCE of the entries, in the part's element.
use Rattle.std.proofs.Common.{ℕ, List, ◌≤◌, length, ap, sym, ◌∙◌, arith}
use Rattle.std.proofs.lemmas.Bool.Decides.{nat_tests}
use Rattle.der_reader.specs.Elem.{element_text}
use Rattle.der_reader.specs.Tags.{sequence_tag}
use Rattle.claim_constraints.specs.ConstraintsText.{elements, permit_content, permits_tag}
use Rattle.claim_constraints.specs.Size.{capped}
use Rattle.claim_constraints.proofs.WholeLaws.{part_some}
use Rattle.claim_constraints.proofs.sizes.permits_size.Goals as goal

pub returns : goal.returns
returns c =
    let some : 1 ≤ length c.args.permits.now = grind (arith, nat_tests, c.count.ensures, c.if-count-eq0.false) in
    let each : List ℕ = elements sequence_tag permit_content c.args.permits.now in
    c.element_size-2.ensures permits_tag (element_text sequence_tag each) (c.element_size.ensures sequence_tag each c.entries_size.ensures)
    ∙ ap (λ text. capped (length text)) (sym (part_some permits_tag sequence_tag permit_content c.args.permits.now some))
