-- What is asked for a screened call, and what is found if all of that is confirmed.
use Rattle.std.proofs.Common.{◌≡◌, IfOk, List, ap, map, subst}
use Rattle.call_judging.specs.AlwaysYes.{always_yes}
use Rattle.cert_store.specs.Questions.{seen}
use Rattle.delegation.specs.Coverage.{Table}
use Rattle.open_calls.proofs.CallLaws.{one_each, screened_in}
use Rattle.open_calls.proofs.JudgingLaws.{if_confirmed}
use Rattle.open_calls.specs.Founds.{IsFoundOver}
use Rattle.open_calls.specs.OpenCalls.{CallView, call_in}
use Rattle.open_calls.specs.OpenChains.{states_of}
use Rattle.open_calls.specs.OwnQuestions.{own_asked}
use Rattle.verify_rules.specs.Call.{Call}
use Rattle.verify_rules.specs.States.{State}
use Rattle.open_calls.proofs.call.OpenCall.questions.Goals as goal

pub ask-requires : goal.ask-requires
ask-requires c = record {
  one_each = one_each c.args.self.now c.in-Ok.screened c.args.chains.now (screened_in _ c.args.self.now c.self.inside.screened c.in-Ok.screened c.self.invariant c.in-Ok.is c.self.view_is)
      c.requires.one_each;
}

pub returns-in-Ok-clause-asked : goal.returns-in-Ok-clause-asked
returns-in-Ok-clause-asked c =
    subst (λ (t : Table). IfOk c.ask.result (λ asked. map seen asked.questions.items ≡ own_asked t (states_of c.args.chains.now) (call_in c.args.self.now))) c.table.ensures
    (c.ask.ensures.asked (call_in c.args.self.now) (screened_in _ c.args.self.now c.self.inside.screened c.in-Ok.screened c.self.invariant c.in-Ok.is c.self.view_is)
    (ap (λ (v : CallView). v.moment) c.self.view_is))

pub returns-in-Ok-clause-found : goal.returns-in-Ok-clause-found
returns-in-Ok-clause-found c =
    let call : Call = call_in c.args.self.now in
    let states : List State = states_of c.args.chains.now in
    if_confirmed c.unasked_law.ensures c.args.world.now.table states call c.ask.result
    (subst (λ (t : Table). IfOk c.ask.result (λ asked. IsFoundOver always_yes t states call asked.found)) c.table.ensures
    (c.ask.ensures.found call (screened_in _ c.args.self.now c.self.inside.screened c.in-Ok.screened c.self.invariant c.in-Ok.is c.self.view_is) (ap (λ (v : CallView). v.moment) c.self.view_is)))
