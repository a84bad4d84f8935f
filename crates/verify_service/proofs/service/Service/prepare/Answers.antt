-- A round that is prepared is the newest of its service.
use Rattle.std.proofs.Common.{◌<◌, ℕ, [], get_or, length, refl, sym, ap, ◌∙◌, subst, arith}
use Rattle.cert_store.specs.Holding.{Holding}
use Rattle.cert_store.specs.declared.world.World.{World as Materials}
use Rattle.verify_rules.specs.declared.settings.Settings.{Settings}
use Rattle.verify_service.specs.Carried.{AreClasses}
use Rattle.verify_service.specs.Prepared.{AreScreened, classes_of}
use Rattle.verify_service.specs.RightChains.{AreRightHeld}
use Rattle.verify_service.specs.RoundRead.{HasAskedOwn, RoundReads}
use Rattle.replay_desk.specs.Past.{PastView}
use Rattle.replay_law.specs.Held.{Same, purged}
use Rattle.verify_service.specs.Rows.{held}
use Rattle.verify_service.specs.Service.{ServiceView, first_moment_of, materials_of}
use Rattle.verify_service.proofs.ContentLaws.{nothing_read}
use Rattle.verify_service.proofs.KeepingLaws.{same_kept}
use Rattle.verify_service.proofs.PastLaws.{held_same}
use Rattle.verify_service.proofs.ClassLaws.{last_screened}
use Rattle.verify_service.proofs.PreparedLaws.{more_room}
use Rattle.verify_service.proofs.RoundAllLaws.{right_after}
use Rattle.verify_service.proofs.PrepareLaws.{asked_over, is_over}
use Rattle.verify_service.proofs.service.Service.prepare.Goals as goal

-- room in the past changes nothing of what is kept
pub invariant_of-self-in_err-prepared : goal.invariant_of-self-in_err-prepared
invariant_of-self-in_err-prepared g c = record {
  capacity_is = c.prepare_round.ensures.capacity ∙ c.self-2.invariant.capacity_is;
  moment_within = c.self-2.invariant.moment_within;
  each_kept = same_kept c.self-2.inside.number c.self-2.inside.number c.self-2.inside.past c.reserve.new.self (omega arith) c.self-2.invariant.each_kept c.reserve.ensures.same;
}

pub invariant_of-self-2 : goal.invariant_of-self-2
invariant_of-self-2 g c = record {
  capacity_is = c.prepare_round.ensures.capacity ∙ c.self-2.invariant.capacity_is;
  moment_within = c.self-2.invariant.moment_within;
  each_kept = same_kept c.self-2.inside.number c.self-2.inside.number c.self-2.inside.past c.reserve.new.self (omega arith) c.self-2.invariant.each_kept c.reserve.ensures.same;
}

pub returns-clause-purged : goal.returns-clause-purged
returns-clause-purged g c =
    held_same c.self-2.inside.past c.reserve.new.self (purged (first_moment_of c.args.calls.now) (held c.args.self.now.past)) c.reserve.ensures.same
    (subst (λ (v : PastView). Same (purged (first_moment_of c.args.calls.now) (held c.args.self.now.past)) (held v)) (sym (ap (λ (s : ServiceView). s.past) (c.self-2.view_is ∙ c.screened.ensures.same))) c.begin.ensures.purged)

pub returns-in_err-prepared-clause-right : goal.returns-in_err-prepared-clause-right
returns-in_err-prepared-clause-right g c = λ d.
    let over = is_over c.args.self.now c.begin.new.self c.self-2.inside.settings c.self-2.inside.world c.self-2.inside.cache _ _ _ _ (c.self-2.view_is ∙ c.screened.ensures.same) c.begin.ensures.config
    c.begin.ensures.held in
    right_after (g.S.Shelf.files c.args.shelf.now) _ c.args.self.now (g.P.Provider.says (get_or c.args.workers.now 0 d).provider) _ c.self-2.inside.world c.self-2.inside.cache
    c.prepare_round.new.cache c.prepare_round.ensures.shelf.files (c.prepare_round.ensures.provider 0 d c.requires.some).says
    over.told over.holds (c.prepare_round.ensures.right d) (c.requires.right d)

pub returns-clause-right : goal.returns-clause-right
returns-clause-right g c = λ d.
    let over = is_over c.args.self.now c.begin.new.self c.self-2.inside.settings c.self-2.inside.world c.self-2.inside.cache _ _ _ _ (c.self-2.view_is ∙ c.screened.ensures.same) c.begin.ensures.config
    c.begin.ensures.held in
    right_after (g.S.Shelf.files c.args.shelf.now) _ c.args.self.now (g.P.Provider.says (get_or c.args.workers.now 0 d).provider) _ c.self-2.inside.world c.self-2.inside.cache
    c.prepare_round.new.cache c.prepare_round.ensures.shelf.files (c.prepare_round.ensures.provider 0 d c.requires.some).says
    over.told over.holds (c.prepare_round.ensures.right d) (c.requires.right d)

pub returns-in_err-ready-clause-asks : goal.returns-in_err-ready-clause-asks
returns-in_err-ready-clause-asks g c = λ d.
    nothing_read (g.S.Shelf.files c.args.shelf.now) (materials_of c.args.self.now) _ _ _ (length c.args.workers.now) (λ w. g.P.Provider.asks (get_or c.args.workers.now w d).provider)
    (λ w. g.P.Provider.asks (get_or c.args.workers.now w d).provider) (omega arith) (λ w less. refl)

pub returns-in_err-reserve-clause-asks : goal.returns-in_err-reserve-clause-asks
returns-in_err-reserve-clause-asks g c = λ d.
    nothing_read (g.S.Shelf.files c.args.shelf.now) (materials_of c.args.self.now) _ _ _ (length c.args.workers.now) (λ w. g.P.Provider.asks (get_or c.args.workers.now w d).provider)
    (λ w. g.P.Provider.asks (get_or c.args.workers.now w d).provider) (omega arith) (λ w less. refl)

pub returns-in_err-prepared-clause-asks : goal.returns-in_err-prepared-clause-asks
returns-in_err-prepared-clause-asks g c = λ d.
    let over = is_over c.args.self.now c.begin.new.self c.self-2.inside.settings c.self-2.inside.world c.self-2.inside.cache _ _ _ _ (c.self-2.view_is ∙ c.screened.ensures.same) c.begin.ensures.config
    c.begin.ensures.held in
    asked_over (g.S.Shelf.files c.args.shelf.now) c.args.self.now c.self-2.inside.settings c.self-2.inside.world c.self-2.inside.cache c.args.calls.now _ _ (length c.args.workers.now)
    (λ w. g.P.Provider.asks (get_or c.args.workers.now w d).provider) (λ w. g.P.Provider.asks (get_or c.prepare_round.new.workers w d).provider) over (c.prepare_round.ensures.asks d)

pub returns-clause-asks : goal.returns-clause-asks
returns-clause-asks g c = λ d.
    let over = is_over c.args.self.now c.begin.new.self c.self-2.inside.settings c.self-2.inside.world c.self-2.inside.cache _ _ _ _ (c.self-2.view_is ∙ c.screened.ensures.same) c.begin.ensures.config
    c.begin.ensures.held in
    asked_over (g.S.Shelf.files c.args.shelf.now) c.args.self.now c.self-2.inside.settings c.self-2.inside.world c.self-2.inside.cache c.args.calls.now _ _ (length c.args.workers.now)
    (λ w. g.P.Provider.asks (get_or c.args.workers.now w d).provider) (λ w. g.P.Provider.asks (get_or c.prepare_round.new.workers w d).provider) over (c.prepare_round.ensures.asks d)

pub returns-clause-newest : goal.returns-clause-newest
returns-clause-newest g c = record {
  calls = subst (λ n. AreScreened c.self-2.inside.settings n c.in_ok-prepared.prepared.calls) (sym (ap (λ (s : ServiceView). s.number) (c.self-2.view_is ∙ c.screened.ensures.same) ∙ c.begin.ensures.number))
      (last_screened c.self-2.inside.settings c.args.self.now.number c.args.self.now.moment c.args.calls.now c.in_ok-prepared.prepared.calls c.requires.follow.some c.requires.follow.each c.in_ok-prepared.ensures.calls);
  there = c.in_ok-prepared.ensures.there;
  room = more_room c.in_ok-prepared.prepared.calls (length c.args.calls.now) c.reserve.new.self.spare c.in_ok-prepared.ensures.room c.in_ok-reserve.ensures.room;
  begun = ap (λ (s : ServiceView). s.begun) (c.self-2.view_is ∙ c.screened.ensures.same) ∙ c.begin.ensures.begun;
}

pub returns-clause-classes : goal.returns-clause-classes
returns-clause-classes g c =
    subst (λ (s : Settings). AreClasses s c.args.calls.now (classes_of c.in_ok-prepared.prepared.calls)) (ap (λ (s : ServiceView). s.settings) (c.self-2.view_is ∙ c.screened.ensures.same) ∙ c.begin.ensures.config.settings)
    c.in_ok-prepared.ensures.classes

pub returns-clause-reads : goal.returns-clause-reads
returns-clause-reads g c = λ d.
    let over = is_over c.args.self.now c.begin.new.self c.self-2.inside.settings c.self-2.inside.world c.self-2.inside.cache _ _ _ _ (c.self-2.view_is ∙ c.screened.ensures.same) c.begin.ensures.config
    c.begin.ensures.held in
    subst (λ (h : Holding). RoundReads (g.S.Shelf.files c.args.shelf.now) (materials_of c.args.self.now) (g.P.Provider.says (get_or c.args.workers.now 0 d).provider)
    c.in_ok-prepared.prepared.calls (g.S.Shelf.counts c.args.shelf.now) (g.S.Shelf.counts c.prepare_round.new.shelf)
    (λ states. (w : ℕ) → w < length c.args.workers.now → HasAskedOwn w (length c.args.workers.now)
    (g.P.Provider.asks (get_or c.args.workers.now w d).provider) (g.P.Provider.asks (get_or c.prepare_round.new.workers w d).provider)
    (g.P.Provider.faults (get_or c.args.workers.now w d).provider) (g.P.Provider.faults (get_or c.prepare_round.new.workers w d).provider) states)
    h c.prepare_round.new.cache c.in_ok-prepared.prepared.kept) over.holds
    (subst (λ (m : Materials). RoundReads (g.S.Shelf.files c.args.shelf.now) m (g.P.Provider.says (get_or c.args.workers.now 0 d).provider)
    c.in_ok-prepared.prepared.calls (g.S.Shelf.counts c.args.shelf.now) (g.S.Shelf.counts c.prepare_round.new.shelf)
    (λ states. (w : ℕ) → w < length c.args.workers.now → HasAskedOwn w (length c.args.workers.now)
    (g.P.Provider.asks (get_or c.args.workers.now w d).provider) (g.P.Provider.asks (get_or c.prepare_round.new.workers w d).provider)
    (g.P.Provider.faults (get_or c.args.workers.now w d).provider) (g.P.Provider.faults (get_or c.prepare_round.new.workers w d).provider) states)
    c.self-2.inside.cache c.prepare_round.new.cache c.in_ok-prepared.prepared.kept) over.told (c.in_ok-prepared.ensures.reads d))

pub returns-clause-known : goal.returns-clause-known
returns-clause-known g c = λ d.
    let over = is_over c.args.self.now c.begin.new.self c.self-2.inside.settings c.self-2.inside.world c.self-2.inside.cache _ _ _ _ (c.self-2.view_is ∙ c.screened.ensures.same) c.begin.ensures.config
    c.begin.ensures.held in
    subst (λ (m : Materials). AreRightHeld (g.S.Shelf.files c.args.shelf.now) m (g.P.Provider.says (get_or c.args.workers.now 0 d).provider) c.prepare_round.new.cache.entries
    c.in_ok-prepared.prepared.kept) over.told
    (c.in_ok-prepared.ensures.known d
    (subst (λ (m : Materials). AreRightHeld (g.S.Shelf.files c.args.shelf.now) m (g.P.Provider.says (get_or c.args.workers.now 0 d).provider) c.self-2.inside.cache.entries []) (sym over.told)
    (subst (λ (h : Holding). AreRightHeld (g.S.Shelf.files c.args.shelf.now) (materials_of c.args.self.now) (g.P.Provider.says (get_or c.args.workers.now 0 d).provider) h.entries []) (sym over.holds)
    (c.requires.right d))))
