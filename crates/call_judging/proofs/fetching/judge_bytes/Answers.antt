-- What is asked for a chain.
use Rattle.call_judging.proofs.SizeLaws.{asked_most}
use Rattle.call_judging.proofs.fetching.judge_bytes.Goals as goal

pub returns-clause-most : goal.returns-clause-most
returns-clause-most g c = asked_most c.args.world.now.anchors c.args.world.now.table (g.P.Provider.says c.args.provider.now) c.args.bytes.now _ _ _
    c.in_ok-judged.ensures.exact.right c.in_ok-judged.ensures.asks.most
