-- What is written is within its size, since the whole is.
use Rattle.std.proofs.Common.{ℕ, ◌+◌, ◌<◌, ◌≤◌, List, [], ◌∷◌, ◌++◌, length, length-append, arith}
use Rattle.der_reader.specs.Elem.{element_text}
use Rattle.der_reader.specs.Tags.{ia5_string_tag, sequence_tag}
use Rattle.claim_constraints.specs.Constraints.{ConstraintsView, PermitView}
use Rattle.claim_constraints.specs.ConstraintsText.{constraints_text, elements, must_part, part_text, permit_content, permits_part, values_text}
use Rattle.claim_constraints.proofs.ElementLaws.{longer}

-- the two parts
pub parts_small : (c : ConstraintsView) → length (constraints_text c) ≤ 65535
    → (length (must_part c.must) < 65536) × (length (permits_part c.permits) < 65536) × (length (must_part c.must ++ permits_part c.permits) ≤ 65535)
unfolding constraints_text
parts_small c l =
    let both = length-append (must_part c.must) (permits_part c.permits) in
    let inner = longer sequence_tag (must_part c.must ++ permits_part c.permits) in
    (omega (arith, l, both, inner), omega (arith, l, both, inner), omega (arith, l, inner))

pub inner_small : {X : Type 0} (mark tag : ℕ) (content : X → List ℕ) (xs : List X) → 1 ≤ length xs → length (part_text mark tag content xs) < 65536
    → (length (element_text sequence_tag (elements tag content xs)) ≤ 65535) × (length (elements tag content xs) < 65536)
inner_small mark tag content [] some l = absurd (omega (arith, some))
inner_small mark tag content (x ∷ xs) some l =
    let a = longer mark (element_text sequence_tag (elements tag content (x ∷ xs))) in
    let b = longer sequence_tag (elements tag content (x ∷ xs)) in
    (omega (arith, a, l), omega (arith, a, b, l))

-- a claim's name and its values
pub permit_small : (permit : PermitView) → length (permit_content permit) < 65536
    → (length permit.claim ≤ 65535) × (length (values_text permit.values) < 65536)
permit_small permit l =
    let name = longer ia5_string_tag permit.claim in
    let values = longer sequence_tag (values_text permit.values) in
    let both = length-append (element_text ia5_string_tag permit.claim) (element_text sequence_tag (values_text permit.values)) in
    (omega (arith, name, both, l), omega (arith, values, both, l))
