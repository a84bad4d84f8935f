use Rattle.std.proofs.Common.{◌∙◌, arith}
use Rattle.std.proofs.lemmas.List.{length-set}
use Rattle.once_run.proofs.Turns.{worked_skip, worked_step}
use Rattle.once_run.proofs.worker.claim_own.Goals as goal

pub loop-index-preserved-then-index-count : goal.loop-index-preserved-then-index-count
loop-index-preserved-then-index-count c = record {
  desk = c.loop-index.invariant.desk;
  share = c.loop-index.invariant.share;
  claims = c.loop-index.invariant.claims;
  worked = worked_skip c.args.desk.now.size c.args.tickets.now c.args.count c.args.worker c.loop-index.index c.loop-index.seat c.loop-index.claims.items c.loop-index.invariant.worked c.if-index-count.true;
}

pub loop-index-preserved : goal.loop-index-preserved
loop-index-preserved c = record {
  desk = c.claim.ensures.desk ∙ c.loop-index.invariant.desk;
  share = c.claim.ensures.share ∙ c.loop-index.invariant.share;
  claims = length-set c.loop-index.claims.items c.loop-index.index c.claim.result ∙ c.loop-index.invariant.claims;
  worked = worked_step c.args.desk.now.size c.args.tickets.now c.args.count c.args.worker c.loop-index.index c.loop-index.seat c.loop-index.claims.items c.loop-index.invariant.worked
      c.claim.new.seat c.claim.result c.if-index-count.false (omega (arith, c.loop-index.invariant.claims)) c.claim.ensures;
}
