-- What is asked for a call that was screened.
use Rattle.std.proofs.Common.{◌∙◌, true, false, sym, string_bytes}
use Rattle.single_calls.specs.Reading.{lines}
use Rattle.single_calls.proofs.CallLaws.{stops_screened, writes_screened}
use Rattle.single_calls.proofs.WriteLaws.{writes_none}
use Rattle.single_calls.proofs.asker.ask_screened.Goals as goal

pub returns-in-Err-clause-stopped : goal.returns-in-Err-clause-stopped
returns-in-Err-clause-stopped g c = λ call passed.
    stops_screened (g.S.Shelf.files c.args.shelf.now) c.args.world.now call c.args.screened.now (lines c.args.written.now (string_bytes c.args.text.now))
    (lines c.ask_chains.new.written (string_bytes c.ask_chains.new.text)) (g.S.Shelf.counts c.args.shelf.now).faults (g.S.Shelf.counts c.ask_chains.new.shelf).faults c.in-Err.stop
    c.screened_law.ensures.judged c.call_questions_law.ensures.chains passed c.in-Err.ensures.stopped

pub returns-then-not-asks_own-clause-writes : goal.returns-then-not-asks_own-clause-writes
returns-then-not-asks_own-clause-writes g c = λ call passed same.
    writes_screened (g.S.Shelf.files c.args.shelf.now) c.args.world.now call c.args.screened.now c.ask_chains.new.chains c.args.moment (lines c.args.written.now (string_bytes c.args.text.now))
    (lines c.ask_chains.new.written (string_bytes c.ask_chains.new.text)) (lines c.ask_chains.new.written (string_bytes c.ask_chains.new.text)) c.finish-verdict.result 0 0 false
    c.screened_law.ensures.judged c.call_questions_law.ensures.whole passed same c.in-Ok.ensures.counted c.in-Ok.ensures.asked c.finish-verdict.ensures.right c.finish-verdict.ensures.causes
    (sym c.asks_own.ensures ∙ c.if-not-asks_own.true) (writes_none c.ask_chains.new.written (string_bytes c.ask_chains.new.text))

pub returns-in-Ok-ask_own-clause-writes : goal.returns-in-Ok-ask_own-clause-writes
returns-in-Ok-ask_own-clause-writes g c = λ call passed same.
    writes_screened (g.S.Shelf.files c.args.shelf.now) c.args.world.now call c.args.screened.now c.ask_chains.new.chains c.args.moment (lines c.args.written.now (string_bytes c.args.text.now))
    (lines c.ask_chains.new.written (string_bytes c.ask_chains.new.text)) (lines c.ask_own.new.written (string_bytes c.ask_own.new.text)) c.finish-verdict.result 0 0 true
    c.screened_law.ensures.judged c.call_questions_law.ensures.whole passed same c.in-Ok.ensures.counted c.in-Ok.ensures.asked c.finish-verdict.ensures.right c.finish-verdict.ensures.causes
    (sym c.asks_own.ensures ∙ c.if-not-asks_own.false) c.in-Ok-ask_own.ensures
