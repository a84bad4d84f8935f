-- One more is a claim with values.
use Rattle.std.proofs.Common.{sym, ◌∙◌}
use Rattle.claim_constraints.specs.Constraints.{is_permit}
use Rattle.claim_constraints.proofs.PlaceLaws.{all_next}
use Rattle.claim_constraints.proofs.rules.are_permits.Goals as goal

pub loop-index-preserved : goal.loop-index-preserved
loop-index-preserved c =
    sym (all_next is_permit c.args.permits.now c.loop-index.index c.permit.result c.permit.ensures (sym c.is_permit.ensures ∙ c.if-not-is_permit.false)) ∙ c.loop-index.invariant
