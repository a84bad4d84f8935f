-- A round is prepared: its calls are screened and classed, and its chains at hand.
use Rattle.std.proofs.Common.{◌<◌, ℕ, List, get_or, length, refl, ap, ◌∙◌, subst, arith}
use Rattle.verify_service.specs.Needed.{all_named}
use Rattle.verify_service.specs.RightChains.{AreThere}
use Rattle.verify_service.specs.RoundRead.{HasAskedOwn, RoundReads}
use Rattle.verify_service.specs.declared.screening.ReadyCall.{ReadyCall}
use Rattle.verify_service.proofs.ContentLaws.{asked_as, nothing_read}
use Rattle.verify_service.proofs.ListLaws.{each_length}
use Rattle.verify_service.proofs.PrepareLaws.{placed_classes, placed_named, placed_prepared, placed_ready, placed_room, placed_texts, placed_words}
use Rattle.verify_service.proofs.RoundThereLaws.{are_there, right_now}
use Rattle.verify_service.proofs.TogetherLaws.{head_of}
use Rattle.verify_service.proofs.StoreAllLaws.{kept_questions}
use Rattle.verify_service.proofs.prepare.prepare_round.Goals as goal

pub class_calls-requires : goal.class_calls-requires
class_calls-requires g c =
    let size = ap length c.deref_mut.ensures.value ∙ each_length _ c.args.calls.now c.args.ready.items c.requires.ready in
    let few = c.requires.follow.follow.few in
    record { few = omega arith }

pub returns-in_err-kept-clause-most : goal.returns-in_err-kept-clause-most
returns-in_err-kept-clause-most g c =
    let most = c.ready_chains.ensures.most in
    let texts = ap length (placed_texts c.args.settings.now c.args.calls.now _ _ _ _ _ c.args.ready.ok.0 c.deref_mut.ensures.value c.in_ok-classes.ensures.counted c.requires.ready c.in_ok-classes.ensures.classes
    c.texts_law.ensures.named c.args.world.now c.args.cache.now.entries _ c.deref.ensures.value) in
    omega arith

pub returns-clause-most : goal.returns-clause-most
returns-clause-most g c =
    let most = c.ready_chains.ensures.most in
    let texts = ap length (placed_texts c.args.settings.now c.args.calls.now _ _ _ _ _ c.args.ready.ok.0 c.deref_mut.ensures.value c.in_ok-classes.ensures.counted c.requires.ready c.in_ok-classes.ensures.classes
    c.texts_law.ensures.named c.args.world.now c.args.cache.now.entries _ c.deref.ensures.value) in
    omega arith

pub returns-in_err-kept-clause-tries : goal.returns-in_err-kept-clause-tries
returns-in_err-kept-clause-tries g c =
    let tries = c.ready_chains.ensures.tries in
    let texts = ap length (placed_texts c.args.settings.now c.args.calls.now _ _ _ _ _ c.args.ready.ok.0 c.deref_mut.ensures.value c.in_ok-classes.ensures.counted c.requires.ready c.in_ok-classes.ensures.classes
    c.texts_law.ensures.named c.args.world.now c.args.cache.now.entries _ c.deref.ensures.value) in
    omega arith

pub returns-clause-tries : goal.returns-clause-tries
returns-clause-tries g c =
    let tries = c.ready_chains.ensures.tries in
    let texts = ap length (placed_texts c.args.settings.now c.args.calls.now _ _ _ _ _ c.args.ready.ok.0 c.deref_mut.ensures.value c.in_ok-classes.ensures.counted c.requires.ready c.in_ok-classes.ensures.classes
    c.texts_law.ensures.named c.args.world.now c.args.cache.now.entries _ c.deref.ensures.value) in
    omega arith

pub returns-in_err-classes-clause-asks : goal.returns-in_err-classes-clause-asks
returns-in_err-classes-clause-asks g c = λ d.
    nothing_read (g.S.Shelf.files c.args.shelf.now) c.args.world.now _ _ _ (length c.args.workers.now) (λ w. g.P.Provider.asks (get_or c.args.workers.now w d).provider)
    (λ w. g.P.Provider.asks (get_or c.args.workers.now w d).provider) (omega arith) (λ w less. refl)

pub returns-in_err-desk-clause-asks : goal.returns-in_err-desk-clause-asks
returns-in_err-desk-clause-asks g c = λ d.
    nothing_read (g.S.Shelf.files c.args.shelf.now) c.args.world.now _ _ _ (length c.args.workers.now) (λ w. g.P.Provider.asks (get_or c.args.workers.now w d).provider)
    (λ w. g.P.Provider.asks (get_or c.args.workers.now w d).provider) (omega arith) (λ w less. refl)

pub returns-in_err-outcomes-clause-asks : goal.returns-in_err-outcomes-clause-asks
returns-in_err-outcomes-clause-asks g c = λ d.
    nothing_read (g.S.Shelf.files c.args.shelf.now) c.args.world.now _ _ _ (length c.args.workers.now) (λ w. g.P.Provider.asks (get_or c.args.workers.now w d).provider)
    (λ w. g.P.Provider.asks (get_or c.args.workers.now w d).provider) (omega arith) (λ w less. refl)

pub returns-in_err-kept-clause-asks : goal.returns-in_err-kept-clause-asks
returns-in_err-kept-clause-asks g c = λ d.
    asked_as (g.S.Shelf.files c.args.shelf.now) c.args.world.now _ _ _ _ (length c.args.workers.now) (λ w. g.P.Provider.asks (get_or c.args.workers.now w d).provider)
    (λ w. g.P.Provider.asks (get_or c.ready_chains.new.workers w d).provider)
    (placed_texts c.args.settings.now c.args.calls.now _ _ _ _ _ c.args.ready.ok.0 c.deref_mut.ensures.value c.in_ok-classes.ensures.counted c.requires.ready c.in_ok-classes.ensures.classes
    c.texts_law.ensures.named c.args.world.now c.args.cache.now.entries _ c.deref.ensures.value) (c.ready_chains.ensures.asks d)

pub returns-clause-asks : goal.returns-clause-asks
returns-clause-asks g c = λ d.
    asked_as (g.S.Shelf.files c.args.shelf.now) c.args.world.now _ _ _ _ (length c.args.workers.now) (λ w. g.P.Provider.asks (get_or c.args.workers.now w d).provider)
    (λ w. g.P.Provider.asks (get_or c.ready_chains.new.workers w d).provider)
    (placed_texts c.args.settings.now c.args.calls.now _ _ _ _ _ c.args.ready.ok.0 c.deref_mut.ensures.value c.in_ok-classes.ensures.counted c.requires.ready c.in_ok-classes.ensures.classes
    c.texts_law.ensures.named c.args.world.now c.args.cache.now.entries _ c.deref.ensures.value) (c.ready_chains.ensures.asks d)

pub invariant_of-result : goal.invariant_of-result
invariant_of-result g c =
    let d = head_of c.args.workers.now c.requires.some in
    let reads = c.in_ok-kept.ensures.reads d in (
      (let size = each_length _ c.args.calls.now c.args.ready.items c.requires.ready in
          let len = c.in_ok-outcomes.ensures.len in
          let ok = c.args.ready.ok.0 in omega arith),
      placed_prepared c.args.settings.now c.args.calls.now _ _ _ _ _ c.args.ready.ok.0 c.deref_mut.ensures.value c.in_ok-classes.ensures.counted c.requires.ready c.in_ok-classes.ensures.classes c.in_ok-desk.desk c.in_ok-desk.seats.items c.in_ok-kept.kept
          c.requires.follow c.in_ok-desk.ensures.classes c.in_ok-desk.ensures.words
          (kept_questions _ _ _ _ reads.states _ c.ready_chains.new.cache c.in_ok-kept.kept reads.known.knows.right reads.stores) c.in_ok-desk.ensures.seats,
    )

pub returns-clause-calls : goal.returns-clause-calls
returns-clause-calls g c =
    placed_ready c.args.settings.now c.args.calls.now _ _ _ _ _ c.args.ready.ok.0 c.deref_mut.ensures.value c.in_ok-classes.ensures.counted c.requires.ready c.in_ok-classes.ensures.classes

pub returns-clause-room : goal.returns-clause-room
returns-clause-room g c =
    placed_room c.args.settings.now c.args.calls.now _ _ _ _ _ c.args.ready.ok.0 c.deref_mut.ensures.value c.in_ok-classes.ensures.counted c.requires.ready c.in_ok-classes.ensures.classes

pub returns-clause-there : goal.returns-clause-there
returns-clause-there g c =
    let few = placed_named c.args.settings.now c.args.calls.now _ _ _ _ _ c.args.ready.ok.0 c.deref_mut.ensures.value c.in_ok-classes.ensures.counted c.requires.ready c.in_ok-classes.ensures.classes c.requires.follow.follow.few in
    let capacity = c.requires.capacity in
    let size = ap (λ (cs : List ReadyCall). length (all_named cs)) c.deref.ensures.value in
    let reads = c.in_ok-kept.ensures.reads (head_of c.args.workers.now c.requires.some) in
    subst (λ (cs : List ReadyCall). AreThere c.args.world.now.chains c.ready_chains.new.cache.entries c.in_ok-kept.kept (all_named cs)) c.deref.ensures.value
    (are_there c.texts_law.ensures.these c.cache_law.ensures.same c.use_law.ensures.touched c.use_law.ensures.touched_others c.stored_law.ensures.here c.stored_law.ensures.others
    c.stored_law.ensures.there c.args.world.now c.deref.result.now reads.states c.args.cache.now c.ready_chains.new.cache c.in_ok-kept.kept (omega arith) reads.stores)

pub returns-clause-reads : goal.returns-clause-reads
returns-clause-reads g c = λ d.
    subst (λ (cs : List ReadyCall). RoundReads (g.S.Shelf.files c.args.shelf.now) c.args.world.now (g.P.Provider.says (get_or c.args.workers.now 0 d).provider) cs
    (g.S.Shelf.counts c.args.shelf.now) (g.S.Shelf.counts c.ready_chains.new.shelf) (λ states. (w : ℕ) → w < length c.args.workers.now → HasAskedOwn w (length c.args.workers.now)
    (g.P.Provider.asks (get_or c.args.workers.now w d).provider) (g.P.Provider.asks (get_or c.ready_chains.new.workers w d).provider)
    (g.P.Provider.faults (get_or c.args.workers.now w d).provider) (g.P.Provider.faults (get_or c.ready_chains.new.workers w d).provider) states)
    c.args.cache.now c.ready_chains.new.cache c.in_ok-kept.kept) c.deref.ensures.value (c.in_ok-kept.ensures.reads d)

pub returns-clause-known : goal.returns-clause-known
returns-clause-known g c = λ d right.
    let reads = c.in_ok-kept.ensures.reads d in
    right_now c.stored_law.ensures.right c.cache_law.ensures.same (g.S.Shelf.files c.args.shelf.now) c.args.world.now (g.P.Provider.says (get_or c.args.workers.now 0 d).provider) c.deref.result.now
    (g.S.Shelf.counts c.args.shelf.now) (g.S.Shelf.counts c.ready_chains.new.shelf) _ c.args.cache.now c.ready_chains.new.cache c.in_ok-kept.kept reads right

pub returns-clause-classes : goal.returns-clause-classes
returns-clause-classes g c =
    placed_classes c.args.settings.now c.args.calls.now _ _ _ _ _ c.args.ready.ok.0 c.deref_mut.ensures.value c.in_ok-classes.ensures.counted c.requires.ready c.in_ok-classes.ensures.classes
    (record { ticket = c.screened_law.ensures.ticket; last = c.screened_law.ensures.last }) c.in_ok-desk.desk c.requires.follow c.in_ok-desk.ensures.classes c.in_ok-desk.ensures.words

pub returns-clause-words : goal.returns-clause-words
returns-clause-words g c =
    placed_words c.args.settings.now c.args.calls.now _ _ _ _ _ c.args.ready.ok.0 c.deref_mut.ensures.value c.in_ok-classes.ensures.counted c.requires.ready c.in_ok-classes.ensures.classes c.in_ok-desk.desk c.in_ok-desk.ensures.exact
