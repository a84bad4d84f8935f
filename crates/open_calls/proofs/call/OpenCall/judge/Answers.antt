-- What is found is right in each world that leads to the chains and says what the host said.
use Rattle.std.proofs.Common.{◌≡◌, ◌∙◌, List, ap, map, subst}
use Rattle.cert_store.specs.Questions.{seen}
use Rattle.cert_store.specs.Rules.{QuestionView}
use Rattle.cert_store.specs.declared.judged.Question.{Question}
use Rattle.call_judging.specs.AlwaysYes.{always_yes}
use Rattle.open_calls.proofs.JudgingLaws.{yes_confirms}
use Rattle.open_calls.proofs.RightLaws.{right}
use Rattle.open_calls.specs.Confirmed.{ConfirmedView, confirmed, says_by}
use Rattle.open_calls.specs.Founds.{IsFoundOver}
use Rattle.open_calls.specs.OpenCalls.{call_in}
use Rattle.open_calls.specs.OpenChains.{states_of}
use Rattle.open_calls.specs.OwnQuestions.{own_asked}
use Rattle.open_calls.proofs.call.OpenCall.judge.Goals as goal

pub returns-clause-right : goal.returns-clause-right
returns-clause-right c = λ rules given are for_it.
    let own : List QuestionView = own_asked c.args.world.now.table (states_of c.args.chains.now) (call_in c.args.self.now) in
    let good_is : c.new-provider.result.good ≡ confirmed own c.args.good.now =
    ap (λ (v : ConfirmedView). v.good) c.new-provider.ensures.exact ∙ ap (λ (q : List Question). confirmed (map seen q) c.args.good.now) c.as_slice.ensures.value
    ∙ ap (λ (q : List QuestionView). confirmed q c.args.good.now) c.in_ok-asked.ensures.asked in
    right c.unasked_law.ensures c.judged_law.ensures.answered c.questions_law.ensures.agree rules c.args.world.now c.args.self.now given c.args.chains.now c.args.good.now
    c.in_ok-asked.asked.found c.finish-found.result (c.in_ok-asked.ensures.found always_yes (yes_confirms own))
    (subst (λ (q : List QuestionView). IsFoundOver (says_by q) c.args.world.now.table (states_of c.args.chains.now) (call_in c.args.self.now) c.finish-found.result) good_is c.finish-found.ensures)
    are for_it
