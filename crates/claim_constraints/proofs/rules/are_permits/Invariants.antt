-- What is left passes just if all do.
use Rattle.std.proofs.Common.{◌≡◌, drop}
use Rattle.std.specs.List.{list_all}
use Rattle.claim_constraints.specs.Constraints.{is_permit}
use Rattle.claim_constraints.proofs.rules.are_permits.Given as goal

abbrev pub invariant-loop-index : goal.invariant-loop-index
invariant-loop-index l = list_all is_permit (drop l.index l.permits) ≡ list_all is_permit l.permits
