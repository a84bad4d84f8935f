-- The element of the text.
use Rattle.claim_constraints.proofs.sizes.text_size.Goals as goal

pub returns : goal.returns
returns c = λ tag. c.element_size.ensures tag c.args.text.now c.cap.ensures
