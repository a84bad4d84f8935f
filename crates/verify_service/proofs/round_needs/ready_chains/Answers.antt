-- The chains of a round are held or kept, and stay right.
use Rattle.std.proofs.Common.{ℕ, ◌<◌, List, [], get_or, length, refl, sym, ap, ◌∙◌, subst, arith}
use Rattle.stir_outside.specs.Stays.{ProviderStays}
use Rattle.verify_service.specs.Needed.{all_named, needed, once}
use Rattle.verify_service.specs.RoundRead.{states_from}
use Rattle.verify_service.specs.WorkerChains.{chain_at}
use Rattle.verify_service.proofs.ContentLaws.{asked_as, asked_still, nothing_read}
use Rattle.verify_service.proofs.ReadyChainLaws.{own_after, right_same, round_reads, some_right}
use Rattle.verify_service.proofs.StatesLaws.{states_same}
use Rattle.verify_service.proofs.round_needs.ready_chains.Goals as goal

-- nothing was read or asked if memory ran out before
pub returns-in_err-gather_calls-clause-asks : goal.returns-in_err-gather_calls-clause-asks
returns-in_err-gather_calls-clause-asks g c = λ d.
    nothing_read (g.S.Shelf.files c.args.shelf.now) c.args.world.now _ _ _ (length c.args.workers.now) (λ w. g.P.Provider.asks (get_or c.args.workers.now w d).provider)
    (λ w. g.P.Provider.asks (get_or c.args.workers.now w d).provider) (omega arith) (λ w less. refl)

pub returns-in_err-files-clause-asks : goal.returns-in_err-files-clause-asks
returns-in_err-files-clause-asks g c = λ d.
    asked_as (g.S.Shelf.files c.args.shelf.now) c.args.world.now c.gather_calls.new.texts _ _ _ (length c.args.workers.now) (λ w. g.P.Provider.asks (get_or c.args.workers.now w d).provider)
    (λ w. g.P.Provider.asks (get_or c.fetch_and_judge.new.workers w d).provider)
    (c.in_ok-gather_calls.ensures.texts ∙ ap (λ (ts : List (List ℕ)). once ts (needed c.args.world.now.chains c.args.cache.now.entries (all_named c.args.calls.now))) c.new-texts.ensures) (c.fetch_and_judge.ensures.asks d)

pub returns-in_err-store_all-clause-asks : goal.returns-in_err-store_all-clause-asks
returns-in_err-store_all-clause-asks g c = λ d.
    asked_still (g.S.Shelf.files c.args.shelf.now) c.args.world.now c.gather_calls.new.texts _ _ _ (length c.args.workers.now) (λ w. g.P.Provider.asks (get_or c.args.workers.now w d).provider)
    (λ w. g.P.Provider.asks (get_or c.fetch_and_judge.new.workers w d).provider) (λ w. g.P.Provider.asks (get_or c.store_all.new.workers w d).provider)
    (c.in_ok-gather_calls.ensures.texts ∙ ap (λ (ts : List (List ℕ)). once ts (needed c.args.world.now.chains c.args.cache.now.entries (all_named c.args.calls.now))) c.new-texts.ensures)
    (λ w less. ap g.P.Provider.asks (c.store_all.ensures.same w d (subst (λ n. w < n) (sym c.fetch_and_judge.ensures.counted) less))) (c.fetch_and_judge.ensures.asks d)

pub returns-clause-asks : goal.returns-clause-asks
returns-clause-asks g c = λ d.
    asked_still (g.S.Shelf.files c.args.shelf.now) c.args.world.now c.gather_calls.new.texts _ _ _ (length c.args.workers.now) (λ w. g.P.Provider.asks (get_or c.args.workers.now w d).provider)
    (λ w. g.P.Provider.asks (get_or c.fetch_and_judge.new.workers w d).provider) (λ w. g.P.Provider.asks (get_or c.store_all.new.workers w d).provider)
    (c.in_ok-gather_calls.ensures.texts ∙ ap (λ (ts : List (List ℕ)). once ts (needed c.args.world.now.chains c.args.cache.now.entries (all_named c.args.calls.now))) c.new-texts.ensures)
    (λ w less. ap g.P.Provider.asks (c.store_all.ensures.same w d (subst (λ n. w < n) (sym c.fetch_and_judge.ensures.counted) less))) (c.fetch_and_judge.ensures.asks d)

pub returns-in_err-gather_calls-clause-right : goal.returns-in_err-gather_calls-clause-right
returns-in_err-gather_calls-clause-right g c = λ d right. right_same _ _ _ c.args.cache.now.entries c.gather_calls.new.cache.entries [] c.in_err-gather_calls.ensures.same right

pub returns-in_err-files-clause-right : goal.returns-in_err-files-clause-right
returns-in_err-files-clause-right g c = λ d right. right_same _ _ _ c.args.cache.now.entries c.gather_calls.new.cache.entries [] c.in_ok-gather_calls.ensures.same right

pub returns-in_err-store_all-clause-right : goal.returns-in_err-store_all-clause-right
returns-in_err-store_all-clause-right g c = λ d right.
    let slots : ℕ → List _ = λ w. (get_or c.fetch_and_judge.new.workers w d).judged.items in
    some_right c.stored_law.ensures.right (g.S.Shelf.files c.args.shelf.now) c.args.world.now (g.P.Provider.says (get_or c.args.workers.now 0 d).provider) c.gather_calls.new.texts _ _
    c.args.cache.now c.gather_calls.new.cache c.store_all.new.cache _
    (states_same slots (length c.args.workers.now) (length c.fetch_and_judge.new.workers) c.in_ok-files.files.items c.deref.result.now c.fetch_and_judge.ensures.counted c.deref.ensures.value)
    c.new-kept.ensures c.in_ok-gather_calls.ensures.same (c.in_ok-files.ensures.known d).knows.right (c.store_all.ensures.first d) right

pub returns-in_err-store_all-clause-capacity : goal.returns-in_err-store_all-clause-capacity
returns-in_err-store_all-clause-capacity g c = c.store_all.ensures.capacity ∙ c.gather_calls.ensures.capacity

pub returns-in_err-store_all-clause-provider : goal.returns-in_err-store_all-clause-provider
returns-in_err-store_all-clause-provider g c = λ w d less.
    subst (ProviderStays g.P.Provider (get_or c.args.workers.now w d).provider) (sym (c.store_all.ensures.same w d (subst (λ n. w < n) (sym c.fetch_and_judge.ensures.counted) less)))
    (c.fetch_and_judge.ensures.provider w d less)

pub returns-clause-reads : goal.returns-clause-reads
returns-clause-reads g c = λ d.
    let slots : ℕ → List _ = λ w. (get_or c.fetch_and_judge.new.workers w d).judged.items in
    round_reads (g.S.Shelf.files c.args.shelf.now) c.args.world.now (g.P.Provider.says (get_or c.args.workers.now 0 d).provider) c.args.calls.now (g.S.Shelf.counts c.args.shelf.now)
    (g.S.Shelf.counts c.fetch_and_judge.new.shelf) _ c.args.cache.now c.gather_calls.new.cache c.store_all.new.cache _ c.store_all.new.kept c.gather_calls.new.texts _ _ (c.in_ok-gather_calls.ensures.texts
    ∙ ap (λ (ts : List (List ℕ)). once ts (needed c.args.world.now.chains c.args.cache.now.entries (all_named c.args.calls.now))) c.new-texts.ensures)
    c.in_ok-gather_calls.ensures.held
    (states_same slots (length c.args.workers.now) (length c.fetch_and_judge.new.workers) c.in_ok-files.files.items c.deref.result.now c.fetch_and_judge.ensures.counted c.deref.ensures.value)
    c.new-kept.ensures (record {
      knows = (c.in_ok-files.ensures.known d).knows;
      own = own_after g.P.Provider.asks g.P.Provider.faults (λ w. (get_or c.args.workers.now w d).provider) (λ w. (get_or c.fetch_and_judge.new.workers w d).provider)
          (λ w. (get_or c.store_all.new.workers w d).provider) (length c.args.workers.now)
          (states_from 0 (chain_at slots (length c.args.workers.now)) c.in_ok-files.files.items)
          (λ w less. c.store_all.ensures.same w d (subst (λ n. w < n) (sym c.fetch_and_judge.ensures.counted) less)) (c.in_ok-files.ensures.known d).own;
    })
    (c.in_ok-store_all.ensures.stored d)

pub returns-clause-right : goal.returns-clause-right
returns-clause-right g c = λ d right.
    let slots : ℕ → List _ = λ w. (get_or c.fetch_and_judge.new.workers w d).judged.items in
    some_right c.stored_law.ensures.right (g.S.Shelf.files c.args.shelf.now) c.args.world.now (g.P.Provider.says (get_or c.args.workers.now 0 d).provider) c.gather_calls.new.texts _ _
    c.args.cache.now c.gather_calls.new.cache c.store_all.new.cache _
    (states_same slots (length c.args.workers.now) (length c.fetch_and_judge.new.workers) c.in_ok-files.files.items c.deref.result.now c.fetch_and_judge.ensures.counted c.deref.ensures.value)
    c.new-kept.ensures c.in_ok-gather_calls.ensures.same (c.in_ok-files.ensures.known d).knows.right (c.store_all.ensures.first d) right

pub returns-clause-capacity : goal.returns-clause-capacity
returns-clause-capacity g c = c.store_all.ensures.capacity ∙ c.gather_calls.ensures.capacity

pub returns-clause-provider : goal.returns-clause-provider
returns-clause-provider g c = λ w d less.
    subst (ProviderStays g.P.Provider (get_or c.args.workers.now w d).provider) (sym (c.store_all.ensures.same w d (subst (λ n. w < n) (sym c.fetch_and_judge.ensures.counted) less)))
    (c.fetch_and_judge.ensures.provider w d less)
