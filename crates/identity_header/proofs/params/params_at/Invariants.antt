-- What is left, read from the parts seen so far, gives what the whole gives.
use Rattle.std.proofs.Common.{◌≡◌, length}
use Rattle.identity_header.specs.Reading as reading
use Rattle.identity_header.specs.Views.{parts_of}
use Rattle.identity_header.proofs.params.params_at.Given as goal

abbrev pub invariant-params : goal.invariant-params
invariant-params l = reading.params_at (parts_of l.seen) l.left ≡ reading.params_at (parts_of l.fn.seen) l.fn.text

abbrev pub decreases-params : goal.decreases-params
decreases-params l = length l.left
