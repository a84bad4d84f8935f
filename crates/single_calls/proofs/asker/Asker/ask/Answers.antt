-- What an asker writes of a call.
use Rattle.std.proofs.Common.{Result, IfErr, IfOk, refl, rules, sym, subst, string_bytes}
use Rattle.log_run.specs.Batch.{BatchAnswerView}
use Rattle.log_run.specs.declared.stop.AnswerError.{AnswerError}
use Rattle.single_calls.specs.Answering.{StopsBy}
use Rattle.single_calls.specs.Asker.{AskedBy, AskerView, BehindAsked, StopsAsking}
use Rattle.single_calls.specs.Reading.{lines}
use Rattle.single_calls.specs.Singly.{OneAnswer}
use Rattle.single_calls.proofs.AskerLaws.{one_asked, stops_so}
use Rattle.single_calls.proofs.asker.Asker.ask.Goals.{in-Ok, in-Err-Unread, in-Err-Memory}
use Rattle.single_calls.proofs.asker.Asker.ask.Goals as goal

pub returns-clause-asked : goal.returns-clause-asked
returns-clause-asked g c =
    let before : AskerView = record { settings = c.self.inside.settings; materials = c.self.inside.world; written = c.self.inside.written } in
    let now : AskerView = record { settings = c.self.inside.settings; materials = c.self.inside.world; written = c.ask_call.new.written } in
    let Q : AskerView → Result BatchAnswerView AnswerError → Type 0 = λ a r.
    IfOk r (OneAnswer (BehindAsked a (g.S.Shelf.files c.args.shelf.now)) (BehindAsked now (g.S.Shelf.files c.args.shelf.now)) (AskedBy a (g.S.Shelf.files c.args.shelf.now))
    (g.S.Shelf.counts c.args.shelf.now).faults (g.S.Shelf.counts c.ask_call.new.shelf).faults c.args.call.now) in
    subst (λ (a : AskerView). Q a c.match-ask_call.result) c.self.view_is (elim c.match-ask_call.branch [
      | in-Ok w ↦ subst (Q before) (sym w.result-is) (one_asked before now (g.S.Shelf.files c.args.shelf.now) c.args.call.now (string_bytes c.new-text.result) (string_bytes c.ask_call.new.text) _ _ _
          c.new-text.ensures.bytes c.ask_call.ensures.shelf.counts.faults.never_falls refl refl w.in-Ok.ensures.writes (search rules))
      | in-Err-Unread w ↦ subst (Q before) (sym w.result-is) tt
      | in-Err-Memory w ↦ subst (Q before) (sym w.result-is) tt
    ])

pub returns-clause-stopped : goal.returns-clause-stopped
returns-clause-stopped g c =
    let before : AskerView = record { settings = c.self.inside.settings; materials = c.self.inside.world; written = c.self.inside.written } in
    let Q : AskerView → Result BatchAnswerView AnswerError → Type 0 = λ a r.
    IfErr r (StopsBy (BehindAsked a (g.S.Shelf.files c.args.shelf.now)) (StopsAsking a (g.S.Shelf.files c.args.shelf.now)) c.args.call.now
    (g.S.Shelf.counts c.args.shelf.now).faults (g.S.Shelf.counts c.ask_call.new.shelf).faults) in
    subst (λ (a : AskerView). Q a c.match-ask_call.result) c.self.view_is (elim c.match-ask_call.branch [
      | in-Ok w ↦ subst (Q before) (sym w.result-is) tt
      | in-Err-Unread w ↦ subst (Q before) (sym w.result-is) (stops_so before (g.S.Shelf.files c.args.shelf.now) c.args.call.now (string_bytes c.new-text.result)
          (lines c.ask_call.new.written (string_bytes c.ask_call.new.text)) (string_bytes w.in-Err-Unread.name) (g.S.Shelf.counts c.args.shelf.now).faults (g.S.Shelf.counts c.ask_call.new.shelf).faults
          c.new-text.ensures.bytes (rw w.in-Err-Unread.field-0-is at w.in-Err-Unread.ensures.stopped))
      | in-Err-Memory w ↦ subst (Q before) (sym w.result-is) tt
    ])
