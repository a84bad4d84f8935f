-- An element is longer than its content by its tag and its length, of one to three bytes.
use Rattle.std.proofs.Common.{rules}
use Rattle.claim_constraints.proofs.SizeLaws.{element_long, element_middle, element_past, element_short}
use Rattle.claim_constraints.proofs.sizes.element_size.Goals as goal

pub returns-in-0-to-127 : goal.returns-in-0-to-127
returns-in-0-to-127 c = λ tag bytes e. element_short tag bytes c.args.content (search rules) e

pub returns-in-128-to-255 : goal.returns-in-128-to-255
returns-in-128-to-255 c = λ tag bytes e. element_middle tag bytes c.args.content (search rules) (search rules) e

pub returns-in-256-to-65531 : goal.returns-in-256-to-65531
returns-in-256-to-65531 c = λ tag bytes e. element_long tag bytes c.args.content (search rules) (search rules) e

pub returns-in_default : goal.returns-in_default
returns-in_default c = λ tag bytes e. element_past tag bytes c.args.content (search rules) e
