-- One more has a permitted value, or is no member.
use Rattle.std.proofs.Common.{sym, ◌∙◌}
use Rattle.serde_json.specs.View.{view}
use Rattle.claim_constraints.specs.Meets.{permits}
use Rattle.claim_constraints.proofs.PlaceLaws.{all_next}
use Rattle.claim_constraints.proofs.meeting.all_permitted.Goals as goal

pub loop-index-preserved : goal.loop-index-preserved
loop-index-preserved c =
    sym (all_next (permits (view c.args.payload.now)) c.args.list.now c.loop-index.index c.permit.result c.permit.ensures (sym c.is_permitted.ensures ∙ c.if-not-is_permitted.false))
    ∙ c.loop-index.invariant
