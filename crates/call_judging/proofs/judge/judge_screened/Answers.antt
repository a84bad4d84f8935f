-- What is found of the call, from its verdict.
use Rattle.std.proofs.Common.{sym, subst}
use Rattle.cert_store.specs.Rules.{Says}
use Rattle.verify_rules.specs.World.{IsJudgedBy}
use Rattle.call_judging.proofs.JudgeLaws.{found_where, unasked_cause, unread_cause}
use Rattle.call_judging.proofs.judge.judge_screened.Goals as goal

pub returns-clause-found : goal.returns-clause-found
returns-clause-found g c = λ call passed now.
    found_where (g.S.Shelf.files c.args.shelf.now) c.args.world.now (g.P.Provider.says c.args.provider.now) call c.args.screened.now c.read_chains.new.chains c.args.moment
    c.finish-verdict.result c.finding_of.result c.screened_law.ensures.judged
    (λ world ruled by right. c.finish-verdict.ensures.right world ruled
    (subst (λ (s : Says). IsJudgedBy world ruled c.args.world.now.table s c.args.moment c.args.screened.now.readings) (sym c.in_ok-read_chains.ensures.provider.says) by) right)
    passed now c.in_ok-read_chains.ensures.right c.finding_of.ensures.same

pub returns-clause-unread : goal.returns-clause-unread
returns-clause-unread g c = unread_cause c.args.screened.now.readings c.read_chains.new.chains (g.P.Provider.faults c.read_chains.new.provider) (g.P.Provider.faults c.finish-verdict.new.provider)
    c.finish-verdict.result c.finding_of.result c.finish-verdict.ensures.causes c.finding_of.ensures.same (g.S.Shelf.counts c.args.shelf.now).faults (g.S.Shelf.counts c.read_chains.new.shelf).faults
    c.in_ok-read_chains.ensures.unread

pub returns-clause-unasked : goal.returns-clause-unasked
returns-clause-unasked g c = unasked_cause c.args.screened.now.readings c.read_chains.new.chains (g.P.Provider.faults c.read_chains.new.provider) (g.P.Provider.faults c.finish-verdict.new.provider)
    c.finish-verdict.result c.finding_of.result c.finish-verdict.ensures.causes c.finish-verdict.ensures.provider.faults c.finding_of.ensures.same (g.P.Provider.faults c.args.provider.now)
    c.in_ok-read_chains.ensures.provider.faults c.in_ok-read_chains.ensures.unasked
