-- What is known of the chain, by what was judged of its bytes.
use Rattle.call_judging.proofs.FetchedLaws.{right_status, unasked_status, unread_status}
use Rattle.call_judging.proofs.reading.judge_fetched.Goals as goal

pub returns-clause-right : goal.returns-clause-right
returns-clause-right g c = λ told x5u read.
    right_status told c.args.world.now (g.P.Provider.says c.args.provider.now) x5u c.args.file.now c.in_ok-judged.judged c.status.result c.status.ensures c.in_ok-judged.ensures.judged read

pub returns-clause-unread : goal.returns-clause-unread
returns-clause-unread g c = unread_status c.args.file.now c.in_ok-judged.judged c.status.result c.status.ensures

pub returns-clause-unasked : goal.returns-clause-unasked
returns-clause-unasked g c = unasked_status c.args.world.now (g.P.Provider.says c.args.provider.now) c.args.file.now c.in_ok-judged.judged c.status.result
    (g.P.Provider.faults c.args.provider.now) (g.P.Provider.faults c.judge_file.new.provider) c.status.ensures c.in_ok-judged.ensures.judged c.in_ok-judged.ensures.failed
