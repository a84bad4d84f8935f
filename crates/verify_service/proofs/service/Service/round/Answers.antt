-- A round, from what was prepared and carried out.
use Rattle.std.proofs.Common.{◌≡◌, ◌<◌, ℕ, get_or, length, refl, sym, ◌∙◌, subst, arith}
use Rattle.cert_store.specs.Holding.{Holding}
use Rattle.cert_store.specs.Using.{names}
use Rattle.replay_law.specs.Held.{Held, purged}
use Rattle.replay_law.specs.Round.{RoundSettled, round_of}
use Rattle.verify_service.specs.Carried.{AreRuled, Carries, HasPairs}
use Rattle.verify_service.specs.Carrying.{AreSaid, HasAnswered}
use Rattle.verify_service.specs.Causes.{unread_texts}
use Rattle.verify_service.specs.Needed.{named}
use Rattle.verify_service.specs.Prepared.{basis_in}
use Rattle.verify_service.specs.Ready.{provided}
use Rattle.verify_service.specs.Reads.{HasAsked, HasJudged, ReadsFew, StaysHeld}
use Rattle.verify_service.specs.RoundRead.{own_of}
use Rattle.verify_service.specs.Rows.{held, rows_of}
use Rattle.verify_service.specs.Service.{first_moment_of, held_texts, materials_of, texts_in}
use Rattle.verify_service.specs.declared.worker.Worker.{Worker}
use Rattle.verify_service.proofs.ContentLaws.{asked_later}
use Rattle.verify_service.proofs.RoundAllLaws.{RoundLaws, RoundParts, among, counted, few, holds_same, judged, judges, legal_by, owed, passports, quiet, quiet_shelf, stays, unasked, unread}
use Rattle.verify_service.proofs.RoundLaws.{materials_same, round_settled}
use Rattle.verify_service.proofs.TogetherLaws.{head_of}
use Rattle.verify_service.proofs.service.Service.round.Goals as goal
use Rattle.verify_service.proofs.service.Service.round.Given as given

module _ (g : given.Over) (c : goal.After-workers-2-1 g) where
  laws : RoundLaws
  laws = record {
    field = c.one_field_law.ensures;
    these = c.texts_law.ensures.these;
    joined = c.texts_law.ensures.joined;
    named = c.texts_law.ensures.named;
    same = c.cache_law.ensures.same;
    touched = c.use_law.ensures.touched_others;
    no_more = c.use_law.ensures.no_more;
    cache = record {
      named = c.use_law.ensures.named;
      found = c.cache_law.ensures.found;
      since = c.use_law.ensures.since;
      put = c.use_law.ensures.put;
      put_others = c.use_law.ensures.put_others;
      more = c.use_law.ensures.more;
      few = c.use_law.ensures.few;
    };
  }

  -- what was prepared, and how the calls were answered
  parts : (d : Worker g.row.P.Denot g.row.G.Denot)
      → RoundParts (g.S.Shelf.files c.args.shelf.now) c.args.self.now (g.P.Provider.says (get_or c.args.workers.now 0 d).provider) c.args.calls.now c.in_ok-prepared.prepared.calls
      (g.S.Shelf.counts c.args.shelf.now) (g.S.Shelf.counts c.prepare.new.shelf) (length c.args.workers.now)
      (λ w. g.P.Provider.asks (get_or c.args.workers.now w d).provider) (λ w. g.P.Provider.asks (get_or c.prepare.new.workers w d).provider)
      (λ w. g.P.Provider.faults (get_or c.args.workers.now w d).provider) (λ w. g.P.Provider.faults (get_or c.prepare.new.workers w d).provider)
      (λ w. provided g.P.Provider (get_or c.prepare.new.workers w d).provider (get_or c.carry.new.workers w d).provider)
      (basis_in c.prepare.new.self c.in_ok-prepared.prepared) c.prepare.new.self.held c.in_ok-prepared.prepared.kept c.carry.result.outcomes
  parts d = record {
    capacity = c.holds_many.ensures;
    some = c.requires.some;
    ready = c.in_ok-prepared.ensures.calls;
    reads = c.in_ok-prepared.ensures.reads d;
    right = c.in_ok-prepared.ensures.known d;
    answered = c.in_ok-prepared.ensures.answered;
    size = c.carry.ensures.counted;
    held_are = refl;
    kept_are = refl;
    materials_are = materials_same c.args.self.now c.prepare.new.self (materials_of c.prepare.new.self) c.prepare.ensures.config refl refl refl;
    said = subst (λ n. AreSaid (basis_in c.prepare.new.self c.in_ok-prepared.prepared)
        (λ w. provided g.P.Provider (get_or c.prepare.new.workers w d).provider (get_or c.carry.new.workers w d).provider) n c.in_ok-prepared.prepared.calls c.carry.result.outcomes)
        c.prepare.ensures.workers (c.carry.ensures.said d);
    each = λ w less. subst (λ n. HasAnswered (basis_in c.prepare.new.self c.in_ok-prepared.prepared)
        (provided g.P.Provider (get_or c.prepare.new.workers w d).provider (get_or c.carry.new.workers w d).provider) c.in_ok-prepared.prepared.calls n w c.carry.result.outcomes)
        c.prepare.ensures.workers (c.carry.ensures.answered w d (subst (λ n. w < n) (sym c.prepare.ensures.workers) less));
    ruled = subst (λ n. AreRuled (basis_in c.prepare.new.self c.in_ok-prepared.prepared) c.args.self.now.settings c.args.calls.now
        (λ w. g.P.Provider.says (get_or c.prepare.new.workers w d).provider) n c.carry.result.outcomes)
        c.prepare.ensures.workers (c.carry.ensures.ruled c.args.self.now.settings c.args.calls.now d c.in_ok-prepared.ensures.calls);
    agree = λ w less. (c.prepare.ensures.provider w d less).says ∙ c.requires.agree w d less;
    asks_are = λ w less. refl;
    faults_are = λ w less. refl;
    faults_stay = λ w less. (c.prepare.ensures.provider w d less).faults;
  }

  any : Worker g.row.P.Denot g.row.G.Denot
  any = head_of c.args.workers.now c.requires.some

  carried : Carries c.args.self.now.settings c.args.calls.now (length c.prepare.new.workers) c.prepare.new.self.past c.carry.new.self.past c.carry.result
  carried = c.carry.ensures.carried c.args.self.now.settings c.args.calls.now c.in_ok-prepared.ensures.calls

  size : length c.carry.result.outcomes ≡ length c.args.calls.now
  size = counted laws _ _ _ _ _ _ _ _ _ _ _ _ _ _ _ _ _ (parts any)

  settles : RoundSettled (held c.args.self.now.past) (round_of (rows_of c.args.self.now.settings c.args.calls.now c.carry.result.outcomes)) (held c.carry.new.self.past)
  settles =
      round_settled c.same_is_one.ensures c.args.self.now.settings (held c.args.self.now.past) (held c.prepare.new.self.past) (held c.carry.new.self.past) c.args.calls.now c.carry.result.outcomes
      size c.prepare.ensures.purged carried.settled

pub returns-clause-counted : goal.returns-clause-counted
returns-clause-counted g c = size g c

pub returns-clause-judged : goal.returns-clause-judged
returns-clause-judged g c = λ d. judged (laws g c) _ _ _ _ _ _ _ _ _ _ _ _ _ _ _ _ _ (parts g c d)

pub returns-clause-legal : goal.returns-clause-legal
returns-clause-legal g c = λ d files same.
    legal_by (g.S.Shelf.files c.args.shelf.now) c.args.self.now (g.P.Provider.says (get_or c.args.workers.now 0 d).provider) files (held c.args.self.now.past) (held c.carry.new.self.past)
    c.args.calls.now c.carry.result.outcomes same (size g c) (judged (laws g c) _ _ _ _ _ _ _ _ _ _ _ _ _ _ _ _ _ (parts g c d)) (settles g c)

pub returns-clause-settled : goal.returns-clause-settled
returns-clause-settled g c = settles g c

pub returns-clause-first : goal.returns-clause-first
returns-clause-first g c = λ one. (carried g c).first (c.prepare.ensures.workers ∙ one)

pub returns-clause-classes : goal.returns-clause-classes
returns-clause-classes g c = (carried g c).classes

pub returns-clause-pairs : goal.returns-clause-pairs
returns-clause-pairs g c =
    subst (λ (h : Held). HasPairs c.args.self.now.settings h c.args.calls.now c.carry.result.classes c.carry.result.outcomes c.carry.result.seat)
    (sym (c.same_is_one.ensures (purged (first_moment_of c.args.calls.now) (held c.args.self.now.past)) (held c.prepare.new.self.past) c.prepare.ensures.purged)) (carried g c).pairs

pub returns-clause-owed : goal.returns-clause-owed
returns-clause-owed g c = owed (laws g c) _ _ _ _ _ _ _ _ _ _ _ _ _ _ _ _ _ (parts g c (any g c))

pub returns-clause-unread : goal.returns-clause-unread
returns-clause-unread g c = unread (laws g c) _ _ _ _ _ _ _ _ _ _ _ _ _ _ _ _ _ (parts g c (any g c))

pub returns-clause-unasked : goal.returns-clause-unasked
returns-clause-unasked g c = λ w d less. unasked (laws g c) _ _ _ _ _ _ _ _ _ _ _ _ _ _ _ _ _ (parts g c d) w less

pub returns-clause-unasked_among : goal.returns-clause-unasked_among
returns-clause-unasked_among g c = among (laws g c) _ _ _ _ _ _ _ _ _ _ _ _ _ _ _ _ _ (parts g c (any g c))

pub returns-clause-quiet_shelf : goal.returns-clause-quiet_shelf
returns-clause-quiet_shelf g c = λ stayed. quiet_shelf (laws g c) _ _ _ _ _ _ _ _ _ _ _ _ _ _ _ _ _ (parts g c (any g c)) stayed

pub returns-clause-quiet : goal.returns-clause-quiet
returns-clause-quiet g c = λ d stayed. quiet (laws g c) _ _ _ _ _ _ _ _ _ _ _ _ _ _ _ _ _ (parts g c d) stayed

pub returns-clause-right : goal.returns-clause-right
returns-clause-right g c = λ d.
    holds_same _ _ _ c.prepare.new.self c.carry.new.self
    (c.carry.ensures.provider 0 d (subst (λ n. 0 < n) (sym c.prepare.ensures.workers) c.requires.some)).says c.carry.ensures.config c.carry.ensures.same (c.prepare.ensures.right d)

pub returns-clause-judges : goal.returns-clause-judges
returns-clause-judges g c = λ d.
    subst (λ (h : Holding). HasJudged (g.S.Shelf.files c.args.shelf.now) (materials_of c.args.self.now) (g.P.Provider.says (get_or c.args.workers.now 0 d).provider)
    (named c.args.self.now.settings c.args.calls.now) (unread_texts c.args.self.now.settings c.args.calls.now c.carry.result.outcomes) c.args.self.now.held h (g.S.Shelf.counts c.args.shelf.now).reads (g.S.Shelf.counts c.prepare.new.shelf).reads
    (λ judged. (w : ℕ) → w < length c.args.workers.now → HasAsked judged (own_of w (length c.args.workers.now) 0 (texts_in c.args.self.now c.args.calls.now))
    (named c.args.self.now.settings (own_of w (length c.args.workers.now) 0 c.args.calls.now))
    (g.P.Provider.asks (get_or c.args.workers.now w d).provider) (g.P.Provider.asks (get_or c.carry.new.workers w d).provider))) (sym c.carry.ensures.same)
    (judges (laws g c) _ _ _ _ _ _ _ _ _ _ _ _ _ _ _ _ _ (parts g c d))

-- of its texts and, once the calls were judged, of its calls
pub returns-in_err-prepared-clause-asks : goal.returns-in_err-prepared-clause-asks
returns-in_err-prepared-clause-asks g c = λ d.
    asked_later (g.S.Shelf.files c.args.shelf.now) (materials_of c.args.self.now) (materials_of c.args.self.now) _ _ _ _ (length c.args.workers.now)
    (λ w. g.P.Provider.asks (get_or c.args.workers.now w d).provider) (λ w. g.P.Provider.asks (get_or c.prepare.new.workers w d).provider)
    (λ w. g.P.Provider.asks (get_or c.prepare.new.workers w d).provider)
    (λ w. length (named c.args.self.now.settings (own_of w (length c.args.workers.now) 0 c.args.calls.now))) refl refl
    (λ w less. omega arith) (c.prepare.ensures.asks d)

pub returns-clause-asks : goal.returns-clause-asks
returns-clause-asks g c = λ d.
    asked_later (g.S.Shelf.files c.args.shelf.now) (materials_of c.args.self.now) (materials_of c.args.self.now) _ _ _ _ (length c.args.workers.now)
    (λ w. g.P.Provider.asks (get_or c.args.workers.now w d).provider) (λ w. g.P.Provider.asks (get_or c.prepare.new.workers w d).provider)
    (λ w. g.P.Provider.asks (get_or c.carry.new.workers w d).provider)
    (λ w. length (named c.args.self.now.settings (own_of w (length c.args.workers.now) 0 c.args.calls.now))) refl refl
    (λ w less. passports (laws g c) _ _ _ _ _ _ _ _ _ _ _ _ _ _ _ _ _ (parts g c d) w less) (c.prepare.ensures.asks d)

pub returns-clause-stays : goal.returns-clause-stays
returns-clause-stays g c =
    subst (λ (h : Holding). StaysHeld c.args.self.now.chains (named c.args.self.now.settings c.args.calls.now) c.args.self.now.held h) (sym c.carry.ensures.same)
    (stays (laws g c) _ _ _ _ _ _ _ _ _ _ _ _ _ _ _ _ _ (parts g c (any g c)))

pub returns-clause-few : goal.returns-clause-few
returns-clause-few g c = λ d stayed.
    subst (λ (h : Holding). ReadsFew c.args.self.now.settings c.args.self.now.chains c.args.calls.now (held_texts c.args.self.now) (names h.entries)
    (g.S.Shelf.counts c.args.shelf.now).reads (g.S.Shelf.counts c.prepare.new.shelf).reads) (sym c.carry.ensures.same)
    (few (laws g c) _ _ _ _ _ _ _ _ _ _ _ _ _ _ _ _ _ (parts g c d) stayed)
