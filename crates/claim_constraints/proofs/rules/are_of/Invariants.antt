-- What is left passes just if all do.
use Rattle.std.proofs.Common.{◌≡◌, drop}
use Rattle.std.specs.List.{list_all}
use Rattle.claim_constraints.specs.Form.{passes}
use Rattle.claim_constraints.proofs.rules.are_of.Given as goal

abbrev pub invariant-loop-index : goal.invariant-loop-index
invariant-loop-index l = list_all (passes l.form) (drop l.index l.texts) ≡ list_all (passes l.form) l.texts
