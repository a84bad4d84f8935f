-- The lines are those of the rules in each world in which this comes of the call.
use Rattle.std.proofs.Common.{◌∙◌, ap}
use Rattle.call_judging.specs.Explain.{explained}
use Rattle.open_calls.proofs.FoundLaws.{explains}
use Rattle.open_calls.proofs.found.Found.explain.Goals as goal

pub returns-clause-right : goal.returns-clause-right
returns-clause-right c = λ world call so.
    explains c.explain_law.ensures.met c.explain_law.ensures.broken c.args.self.now c.args.number _ world call (c.in_ok-text.ensures ∙ ap (explained c.args.number) c.finding.ensures) so
