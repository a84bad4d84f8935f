-- The SEQUENCE of the names, in the part's element.
use Rattle.std.proofs.Common.{ℕ, List, ◌≤◌, length, ap, sym, ◌∙◌, arith}
use Rattle.std.proofs.lemmas.Bool.Decides.{nat_tests}
use Rattle.der_reader.specs.Elem.{element_text}
use Rattle.der_reader.specs.Tags.{ia5_string_tag, sequence_tag}
use Rattle.claim_constraints.specs.ConstraintsText.{itself, must_tag, names_text}
use Rattle.claim_constraints.specs.Size.{capped}
use Rattle.claim_constraints.proofs.WholeLaws.{part_some}
use Rattle.claim_constraints.proofs.sizes.must_size.Goals as goal

pub returns : goal.returns
returns c =
    let some : 1 ≤ length c.args.names.now = grind (arith, nat_tests, c.count.ensures, c.if-count-eq0.false) in
    let each : List ℕ = names_text c.args.names.now in
    c.element_size-2.ensures must_tag (element_text sequence_tag each) (c.element_size.ensures sequence_tag each c.names_size.ensures)
    ∙ ap (λ text. capped (length text)) (sym (part_some must_tag ia5_string_tag itself c.args.names.now some))
