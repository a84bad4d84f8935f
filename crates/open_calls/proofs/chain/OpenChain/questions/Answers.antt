-- There are at most six questions.
use Rattle.std.proofs.Common.{◌∙◌, ap}
use Rattle.call_judging.specs.CallQuestions.{chain_questions}
use Rattle.open_calls.proofs.ChainLaws.{few}
use Rattle.open_calls.proofs.chain.OpenChain.questions.Goals as goal

pub returns-clause-few : goal.returns-clause-few
returns-clause-few c =
    few c.args.self.now.state c.in_ok-asked.asked.items c.length-few.result (c.in_ok-asked.ensures ∙ ap chain_questions c.state.ensures.exact) c.length-few.ensures.exact
    c.length-few.ensures.few
