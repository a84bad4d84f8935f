-- What is found of the call is explained.
use Rattle.std.proofs.Common.{IfOk, ap, subst}
use Rattle.cert_store.specs.Rules.{Says}
use Rattle.stir_outside.specs.Held.{held_says}
use Rattle.stir_outside.specs.Provided.{SteadyState}
use Rattle.call_judging.specs.Judging.{IsFoundWhere}
use Rattle.verify_rules.specs.Call.{Call, call_of}
use Rattle.verify_service.specs.Judging.{call_in}
use Rattle.single_calls.specs.Explainer.{BehindAny, ExplainedBy, ExplainerView}
use Rattle.single_calls.specs.Singly.{OneAnswer}
use Rattle.single_calls.proofs.ExplainerLaws.{one_explained}
use Rattle.single_calls.proofs.explainer.Explainer.explain.Goals as goal

pub returns-clause-explained : goal.returns-clause-explained
returns-clause-explained g c =
    let e : ExplainerView = record { settings = c.self.inside.settings; materials = c.self.inside.world; answers = c.self.inside.answers.now } in
    let found : IsFoundWhere (g.S.Shelf.files c.args.shelf.now) e.materials (held_says e.answers) (call_in e.settings c.args.call.now) c.in_ok-finding.finding =
    subst (λ (call : Call). IsFoundWhere (g.S.Shelf.files c.args.shelf.now) e.materials (held_says e.answers) call c.in_ok-finding.finding)
    (c.call_law.ensures.same e.settings c.args.call.now c.moment.result c.message.result.now c.message.ensures c.moment.ensures)
    (subst (λ (s : Says). IsFoundWhere (g.S.Shelf.files c.args.shelf.now) e.materials s (call_of e.settings c.moment.result c.message.result.now) c.in_ok-finding.finding)
    (ap (λ (p : SteadyState). held_says p.held) c.steady-provider.ensures) c.in_ok-finding.ensures.found) in
    subst
    (λ (x : ExplainerView). IfOk c.explanation.result (OneAnswer BehindAny BehindAny (ExplainedBy x (g.S.Shelf.files c.args.shelf.now)) (g.S.Shelf.counts c.args.shelf.now).faults (g.S.Shelf.counts c.judge_call.new.shelf).faults c.args.call.now))
    c.self.view_is
    (one_explained c.explain_law.ensures.met c.explain_law.ensures.broken c.explanation.result e (g.S.Shelf.files c.args.shelf.now) c.args.call.now c.number.result c.in_ok-finding.finding (g.S.Shelf.counts c.args.shelf.now).faults (g.S.Shelf.counts c.judge_call.new.shelf).faults
    c.in_ok-finding.ensures.unasked c.in_ok-finding.ensures.unread c.judge_call.ensures.shelf.counts.faults.never_falls found c.number.ensures c.explanation.ensures)
