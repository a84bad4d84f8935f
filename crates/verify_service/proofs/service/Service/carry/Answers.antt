-- What a round that is carried out came to, as a contract sees it.
use Rattle.std.proofs.Common.{List, get_or, length, sym, ap, subst}
use Rattle.call_log.specs.Entry.{Entry}
use Rattle.verify_rules.specs.declared.settings.Settings.{Settings}
use Rattle.verify_service.specs.Carried.{AreRuled, Carries}
use Rattle.verify_service.specs.Carrying.{AreSaid, HasAnswered}
use Rattle.verify_service.specs.Judging.{EachPair}
use Rattle.verify_service.specs.Prepared.{AreScreened, PreparedView}
use Rattle.verify_service.specs.Ready.{provided}
use Rattle.verify_service.specs.Screening.{IsReady}
use Rattle.verify_service.specs.Service.{ServiceView}
use Rattle.verify_service.proofs.ClassLaws.{are_kept}
use Rattle.verify_service.proofs.KeepingLaws.{added_kept}
use Rattle.verify_service.proofs.PreparedLaws.{ready_in, round_seen}
use Rattle.verify_service.proofs.service.Service.carry.Goals as goal

-- what the valid calls are kept as is within the bounds of the last call
pub invariant_of-self : goal.invariant_of-self
invariant_of-self g c =
    let newest : AreScreened c.args.self.now.settings c.args.self.now.number c.prepared.inside.round.calls.items =
    subst (λ (p : PreparedView). AreScreened c.args.self.now.settings c.args.self.now.number p.calls) (sym c.prepared.view_is) c.requires.newest.calls in
    let screened : AreScreened c.args.self.now.settings c.self.inside.number c.prepared.inside.round.calls.items =
    subst (λ n. AreScreened c.args.self.now.settings n c.prepared.inside.round.calls.items) (sym (ap (λ (s : ServiceView). s.number) c.self.view_is)) newest in
    record {
      capacity_is = c.self.invariant.capacity_is;
      moment_within = c.self.invariant.moment_within;
      each_kept = added_kept c.self.inside.number c.self.inside.past c.carry_round.new.past c.prepared.inside.round.calls.items c.carry_round.result.outcomes c.self.invariant.each_kept
          (are_kept c.args.self.now.settings c.self.inside.number c.prepared.inside.round.calls.items screened) c.carry_round.ensures.added;
    }

pub carry_round-requires-clause-ready : goal.carry_round-requires-clause-ready
carry_round-requires-clause-ready g c κs within = ready_in _ c.args.self.now _ c.args.prepared c.self.view_is c.prepared.view_is c.requires.newest c.prepared.invariant.1.classes

pub returns-clause-said : goal.returns-clause-said
returns-clause-said g c = λ d.
    round_seen (λ on cs. AreSaid on (λ w. provided g.P.Provider (get_or c.args.workers.now w d).provider (get_or c.carry_round.new.workers w d).provider)
    (length c.args.workers.now) cs c.carry_round.result.outcomes) _ c.args.self.now _ c.args.prepared c.self.view_is c.prepared.view_is (c.carry_round.ensures.said d)

pub returns-clause-answered : goal.returns-clause-answered
returns-clause-answered g c = λ w d less.
    round_seen (λ on cs. HasAnswered on (provided g.P.Provider (get_or c.args.workers.now w d).provider (get_or c.carry_round.new.workers w d).provider) cs
    (length c.args.workers.now) w c.carry_round.result.outcomes) _ c.args.self.now _ c.args.prepared c.self.view_is c.prepared.view_is (c.carry_round.ensures.answered w d less)

pub returns-clause-carried : goal.returns-clause-carried
returns-clause-carried g c =
    round_seen (λ on cs. (settings : Settings) (entries : List Entry) → EachPair (IsReady settings) entries cs
    → Carries settings entries (length c.args.workers.now) on.past c.carry_round.new.past c.carry_round.result) _ c.args.self.now _ c.args.prepared c.self.view_is c.prepared.view_is
    c.carry_round.ensures.carried

pub returns-clause-ruled : goal.returns-clause-ruled
returns-clause-ruled g c = λ settings entries d.
    round_seen (λ on cs. EachPair (IsReady settings) entries cs
    → AreRuled on settings entries (λ w. g.P.Provider.says (get_or c.args.workers.now w d).provider) (length c.args.workers.now) c.carry_round.result.outcomes)
    _ c.args.self.now _ c.args.prepared c.self.view_is c.prepared.view_is (c.carry_round.ensures.ruled settings entries d)
