-- What comes of the call, by the verdict.
use Rattle.open_calls.specs.OpenChains.{states_of}
use Rattle.open_calls.proofs.JudgingLaws.{verdict_in}
use Rattle.open_calls.proofs.judging.finish_with.Goals as goal

pub returns : goal.returns
returns g c = λ call passed now.
    c.found_of.ensures call (g.P.Provider.says c.args.provider.now) c.args.table.now (states_of c.args.chains.now) passed
    (verdict_in (g.P.Provider.says c.args.provider.now) c.args.table.now call c.args.screened.now (states_of c.args.chains.now) c.args.moment _ _ c.finish-verdict.result passed.1 now
    (c.requires.never_fails _) (c.requires.never_fails _) c.finish-verdict.ensures.verdict)
