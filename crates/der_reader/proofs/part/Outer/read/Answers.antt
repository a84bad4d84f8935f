-- An element is short, and longer than its content.
use Rattle.der_reader.proofs.PartLaws.{element_small}
use Rattle.der_reader.proofs.part.Outer.read.Goals as goal

pub invariant_of-result : goal.invariant_of-result
invariant_of-result c = let e = element_small _ _ _ c.in-Ok.ensures.found in record { small = e.0; sizes = e.2 }
