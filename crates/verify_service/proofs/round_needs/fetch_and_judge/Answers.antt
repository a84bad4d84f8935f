-- What each worker judged of the files.
use Rattle.std.proofs.Common.{◌<◌, List, get_or, length, refl, sym, subst}
use Rattle.verify_service.specs.declared.worker.Worker.{Worker}
use Rattle.verify_service.proofs.ContentLaws.{fetched_read, nothing_read}
use Rattle.verify_service.proofs.KnownLaws.{counted_unless, known_chains, not_out, own_unless}
use Rattle.verify_service.proofs.round_needs.fetch_and_judge.Goals as goal

pub returns-in_err-files-clause-asks : goal.returns-in_err-files-clause-asks
returns-in_err-files-clause-asks g c = λ d.
    nothing_read (g.S.Shelf.files c.args.shelf.now) c.args.world.now c.args.texts.now _ _ (length c.args.workers.now) (λ w. g.P.Provider.asks (get_or c.args.workers.now w d).provider)
    (λ w. g.P.Provider.asks (get_or c.args.workers.now w d).provider) c.fetch_all.ensures.shelf.counts.reads.never_falls (λ w less. refl)

pub returns-then-any_out_of_memory-clause-asks : goal.returns-then-any_out_of_memory-clause-asks
returns-then-any_out_of_memory-clause-asks g c = λ d.
    fetched_read (g.S.Shelf.files c.args.shelf.now) c.args.world.now c.args.texts.now c.in_ok-files.files.items c.deref.result.now _ _ (length c.args.workers.now)
    (λ w. g.P.Provider.asks (get_or c.args.workers.now w d).provider) (λ w. g.P.Provider.asks (get_or c.judge_texts.new.workers w d).provider) c.deref.ensures.value
    c.in_ok-files.ensures.contents c.in_ok-files.ensures.rose (λ w less. c.judge_texts.ensures.most w d less)

pub returns-clause-asks : goal.returns-clause-asks
returns-clause-asks g c = λ d.
    fetched_read (g.S.Shelf.files c.args.shelf.now) c.args.world.now c.args.texts.now c.in_ok-files.files.items c.deref.result.now _ _ (length c.args.workers.now)
    (λ w. g.P.Provider.asks (get_or c.args.workers.now w d).provider) (λ w. g.P.Provider.asks (get_or c.judge_texts.new.workers w d).provider) c.deref.ensures.value
    c.in_ok-files.ensures.contents c.in_ok-files.ensures.rose (λ w less. c.judge_texts.ensures.most w d less)

pub returns-clause-known : goal.returns-clause-known
returns-clause-known g c = λ d.
    let before : List (Worker g.row.P.Denot g.row.G.Denot) = c.args.workers.now in
    let now : List (Worker g.row.P.Denot g.row.G.Denot) = c.judge_texts.new.workers in
    let some = c.requires.some in
    known_chains (g.S.Shelf.files c.args.shelf.now) c.args.world.now (g.P.Provider.says (get_or before 0 d).provider) c.args.texts.now (g.S.Shelf.counts c.args.shelf.now)
    (g.S.Shelf.counts c.fetch_all.new.shelf) (length before) (λ w. g.P.Provider.asks (get_or before w d).provider) (λ w. g.P.Provider.asks (get_or now w d).provider)
    (λ w. g.P.Provider.faults (get_or before w d).provider) (λ w. g.P.Provider.faults (get_or now w d).provider) (λ w. (get_or now w d).judged.items) c.in_ok-files.files.items some
    c.in_ok-files.ensures.fetched c.in_ok-files.ensures.unread c.in_ok-files.ensures.read c.in_ok-files.ensures.rose
    (λ w less. own_unless c.args.world.now (g.P.Provider.says (get_or before w d).provider) (g.P.Provider.says (get_or before 0 d).provider) w (length before) c.deref.result.now
    c.in_ok-files.files.items (get_or now w d).judged.items (get_or now w d).out_of_memory (not_out (λ v. v.out_of_memory) now w d (sym c.if-any_out_of_memory.ensures) (subst (λ n. w < n) (sym c.judge_texts.ensures.counted) less)) (c.requires.agree w d less) c.deref.ensures.value (c.judge_texts.ensures.judged w d less))
    (λ w less. counted_unless _ _ _ _ (get_or now w d).judged.items (get_or now w d).out_of_memory (not_out (λ v. v.out_of_memory) now w d (sym c.if-any_out_of_memory.ensures) (subst (λ n. w < n) (sym c.judge_texts.ensures.counted) less)) (c.judge_texts.ensures.asked w d less))
