-- What is left passes just if all do.
use Rattle.std.proofs.Common.{◌≡◌, drop}
use Rattle.std.specs.List.{list_all}
use Rattle.claim_constraints.specs.Form.{passes}
use Rattle.claim_constraints.specs.declared.form.Form.TheVariants.{Value}
use Rattle.claim_constraints.proofs.rules.are_values.Given as goal

abbrev pub invariant-loop-index : goal.invariant-loop-index
invariant-loop-index l = list_all (passes Value) (drop l.index l.permit.values) ≡ list_all (passes Value) l.permit.values
