-- A new command judges the log, or there is no memory for the drill or for it.
use Rattle.std.proofs.Common.{Some, sym, ap, subst, ◌∙◌}
use Rattle.call_log.proofs.LogLaws.{one_log}
use Rattle.call_log.specs.Log.{start}
use Rattle.call_log.specs.Reads.{LogState}
use Rattle.drill.proofs.CommandLaws.{counted_none}
use Rattle.drill.proofs.RunLaws.{ended_short}
use Rattle.drill.proofs.LoopLaws.{ran_loop}
use Rattle.drill.proofs.SpeakLaws.{drill_speaks}
use Rattle.drill.specs.Drilled.{drill_settings}
use Rattle.log_rounds.proofs.NewLaws.{stands_at_first, told_basis, trusts_none}
use Rattle.log_run.proofs.WordsLaws.{first_says}
use Rattle.stir_outside.specs.Memory.{ShelfState}
use Rattle.verify_rules.specs.declared.settings.Settings.{Settings}
use Rattle.verify_service.specs.Service.{IsNew}
use Rattle.drill.proofs.run.run_drill.Goals as goal

pub returns-in-Err : goal.returns-in-Err
returns-in-Err g c = ended_short _ _ _ _ _ _ _ _ (rw c.memory_line.ensures at c.end_with.ensures)

pub returns-in-Err-new : goal.returns-in-Err-new
returns-in-Err-new g c = ended_short _ _ _ _ _ _ _ _ (rw c.memory_line-in-Err-new.ensures at c.end_with-in-Err-new.ensures)

pub run_log-requires-clause-first : goal.run_log-requires-clause-first
run_log-requires-clause-first g c κs within = counted_none _ _ _

pub run_log-requires-clause-stands : goal.run_log-requires-clause-stands
run_log-requires-clause-stands g c κs within = record {
  number = c.in-Ok-new.ensures.number ∙ sym (ap (λ (x : LogState). x.passed.number) c.new-reader.ensures);
  moment = c.in-Ok-new.ensures.moment ∙ sym (ap (λ (x : LogState). x.passed.moment) c.new-reader.ensures);
  trusts = trusts_none c.in-Ok-new.service _ _ c.in-Ok-new.ensures.held;
}

pub returns : goal.returns
returns g c =
    let new : IsNew drill_settings c.in-Ok.ready.files.world c.in-Ok-new.service = subst (λ (x : Settings). IsNew x c.in-Ok.ready.files.world c.in-Ok-new.service) c.settings.ensures c.in-Ok-new.ensures in
    ran_loop c.args.seed c.args.count c.args.workers c.requires.few c.in-Ok.ready.files c.in-Ok.ensures.files (c.log_law.ensures.whole c.args.seed c.args.count c.requires.few) c.in-Ok.ready.shelf.counts.reads c.run_log.new.shelf.counts.reads
    (g.O.Sink.written c.args.sink.now) (g.O.Sink.written c.run_log.new.sink) (Some c.run_log.new.input.left) (g.O.Sink.faults c.args.sink.now) (g.O.Sink.faults c.run_log.new.sink) c.run_log.result _ _ _ c.from.result
    (told_basis drill_settings c.args.workers c.in-Ok.ready.files.world c.in-Ok.ready.files.answers c.in-Ok-new.service new.settings_are new.chains new.anchors new.table) (ap (λ (x : ShelfState). x.files) c.in-Ok.ensures.shelf) c.in-Ok.ensures.log c.from.ensures
    (first_says one_log _ _ _ _ c.new-reader.result _ _ _ _ _ _ c.new-reader.ensures
    (drill_speaks c.legal_together.ensures c.first_of_all.ensures _ c.run_log.new.command _ (start 0 0) _ _ (stands_at_first drill_settings c.in-Ok.ready.files.world c.in-Ok-new.service (record c.in-Ok.ready.shelf.counts { faults = 0 }) new) c.new-2.ensures)
    c.run_log.ensures.ran)
