-- The text of the state closes the report; if memory runs out, the rounds were judged up to here.
use Rattle.log_rounds.proofs.BatchesLaws.{if_ok}
use Rattle.log_rounds.proofs.HandedLaws.{always_err, hands_closed, hands_short}
use Rattle.log_rounds.proofs.handing.HandingVerifierLogCommand.closing.Goals as goal

pub returns-in_err-state-clause-short : goal.returns-in_err-state-clause-short
returns-in_err-state-clause-short c = always_err _ c.from_residual.result (hands_short c.args.self.now)

pub returns-clause-closed : goal.returns-clause-closed
returns-clause-closed c =
    if_ok _ _ c.write.result
    (λ text written first before counts files batches h. hands_closed first.verifier c.args.self.now.verifier _ before counts files batches c.in_ok-state.state text.items c.kept-rules.ensures.rules
    c.in_ok-state.ensures.state written h) c.write.ensures.exact

pub returns-clause-short : goal.returns-clause-short
returns-clause-short c = always_err _ c.write.result (hands_short c.args.self.now)
