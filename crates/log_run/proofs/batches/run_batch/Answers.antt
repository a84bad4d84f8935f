-- The calls that were read are answered, or none was read, or the run stops.
use Rattle.std.proofs.Common.{◌≡◌, ◌<◌, length, refl, arith, rules}
use Rattle.std.proofs.KnownBytes.{Appends-nil}
use Rattle.log_run.proofs.OneBatch.{answers_ran, halt_ran, none_ran, unread_stopped}
use Rattle.log_run.proofs.ReadLaws.{few_read, is_more, more_read, no_calls, read_as, read_follow, stands_read}
use Rattle.log_run.proofs.batches.run_batch.Goals as goal

pub returns-in-Err-clause-ran : goal.returns-in-Err-clause-ran
returns-in-Err-clause-ran g c = λ first before batches known.
    unread_stopped _ (g.C.LogCommand.behind first before c.args.command.now _ _) (g.C.LogCommand.stopped first before c.args.command.now _ _) batches _ _ _ _ known
    (record { read_faults = c.in-Err.ensures.never_falls; write_faults = omega arith }) (Appends-nil _)

pub returns-then-is_empty-clause-ran : goal.returns-then-is_empty-clause-ran
returns-then-is_empty-clause-ran g c =
    let none : length c.read_batch.new.calls.items ≡ 0 = search rules in
    let read = read_as _ _ _ _ _ _ _ _ c.most-most.ensures.exact c.in-Ok.ensures.read in
    let some = rw c.most-most.ensures.exact at c.most-most.ensures.some in
    λ first before batches known.
    none_ran _ (g.C.LogCommand.behind first before c.args.command.now _ _) (g.C.LogCommand.stopped first before c.args.command.now _ _) batches _ _ _ _ _ _ known some read (no_calls _ none) refl
    c.in-Ok.ensures.failed (record { read_faults = c.in-Ok.ensures.never_falls; write_faults = omega arith }) (Appends-nil _)

pub answer_batch-requires-clause-few : goal.answer_batch-requires-clause-few
answer_batch-requires-clause-few g c κs within =
    let same : c.deref.result.now ≡ c.read_batch.new.calls.items = search rules in
    let read = read_as _ _ _ _ _ _ _ _ c.most-most.ensures.exact c.in-Ok.ensures.read in
    rw same (few_read _ _ _ _ _ _ _ read)

pub answer_batch-requires-clause-follow : goal.answer_batch-requires-clause-follow
answer_batch-requires-clause-follow g c κs within =
    let same : c.deref.result.now ≡ c.read_batch.new.calls.items = search rules in
    rw same (read_follow _ (g.C.LogCommand.stands c.args.command.now (g.S.Shelf.counts c.args.shelf.now) (g.S.Shelf.files c.args.shelf.now)) _ _ _ _ _ _ c.requires.stands c.requires.reads_on.room c.in-Ok.ensures.read)

pub returns-in-Ok-answer_batch-clause-ran : goal.returns-in-Ok-answer_batch-clause-ran
returns-in-Ok-answer_batch-clause-ran g c =
    let same : c.deref.result.now ≡ c.read_batch.new.calls.items = search rules in
    let some : 0 < length c.read_batch.new.calls.items = search rules in
    let read = read_as _ _ _ _ _ _ _ _ c.most-most.ensures.exact c.in-Ok.ensures.read in
    let answered = rw same at c.in-Ok-answer_batch.ensures.answered in
    λ first before batches known.
    answers_ran _ (g.C.LogCommand.behind first before c.answer_batch.new.command _ _) (g.C.LogCommand.stopped first before c.answer_batch.new.command _ _) _ batches _ _ _ _ _ c.read_batch.new.calls.items
    (λ answer may. may first before batches known) read some c.in-Ok.ensures.failed (record { read_faults = c.in-Ok.ensures.never_falls; write_faults = c.in-Ok-answer_batch.ensures.writes }) answered

pub returns-in-Ok-answer_batch-clause-stands : goal.returns-in-Ok-answer_batch-clause-stands
returns-in-Ok-answer_batch-clause-stands g c =
    let same : c.deref.result.now ≡ c.read_batch.new.calls.items = search rules in
    let stands = rw same at c.in-Ok-answer_batch.ensures.stands in
    λ more. stands_read _ (g.C.LogCommand.stands c.args.command.now (g.S.Shelf.counts c.args.shelf.now) (g.S.Shelf.files c.args.shelf.now)) (g.C.LogCommand.stands c.answer_batch.new.command (g.S.Shelf.counts c.answer_batch.new.shelf) (g.S.Shelf.files c.answer_batch.new.shelf)) _ _ _ _ _ c.requires.stands stands (is_more _ _ _ _ _ _ _ c.in-Ok.ensures.read more)

pub returns-in-Ok-answer_batch-clause-more : goal.returns-in-Ok-answer_batch-clause-more
returns-in-Ok-answer_batch-clause-more g c =
    let read = read_as _ _ _ _ _ _ _ _ c.most-most.ensures.exact c.in-Ok.ensures.read in
    λ more. more_read _ _ _ _ _ _ (is_more _ _ _ _ _ _ _ read more)

pub returns-clause-ran : goal.returns-clause-ran
returns-clause-ran g c =
    let same : c.deref.result.now ≡ c.read_batch.new.calls.items = search rules in
    let some : 0 < length c.read_batch.new.calls.items = search rules in
    let read = read_as _ _ _ _ _ _ _ _ c.most-most.ensures.exact c.in-Ok.ensures.read in
    λ first before batches known.
    halt_ran _ (g.C.LogCommand.behind first before c.answer_batch.new.command _ _) (g.C.LogCommand.stopped first before c.answer_batch.new.command _ _) _ _ batches _ _ _ _ _ c.deref.result.now c.read_batch.new.calls.items
    c.in-Err-answer_batch.halt same (λ answer may. may first before batches known) (λ stop may. may first before batches known) read some
    (record { read_faults = c.in-Ok.ensures.never_falls; write_faults = c.in-Err-answer_batch.ensures.writes }) c.in-Err-answer_batch.ensures.answered
