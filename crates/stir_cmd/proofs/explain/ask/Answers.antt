-- The files were read and what is asked was said, or a file stopped it.
use Rattle.std.proofs.Common.{inr, ap, ◌∙◌}
use Rattle.single_calls.specs.Asker.{AskedBy, StopsAsking}
use Rattle.cert_store.specs.declared.world.World.{World}
use Rattle.stir_words.specs.Seen.{asking_view}
use Rattle.verify_rules.specs.declared.settings.Settings.{Settings}
use Rattle.stir_cmd.specs.Explained.{ask_over, asker_by}
use Rattle.stir_cmd.proofs.OverFilesSteps.{goes_on}
use Rattle.stir_cmd.proofs.SinglySteps.{as_viewed}
use Rattle.stir_cmd.proofs.StopSteps.{stopped}
use Rattle.stir_cmd.proofs.explain.ask.Goals as goal

pub returns-in-Ok-clause-ran : goal.returns-in-Ok-clause-ran
returns-in-Ok-clause-ran g c =
    goes_on (ask_over (asking_view c.args.asking.now)) c.in-Ok.world _ _ _ _ _ _ _ _ _ _ c.in-Ok.ensures.read c.in-Ok.ensures.truly c.read_world.ensures.same c.read_world.ensures.go_on c.read_world.ensures.reads
    c.ask_log.ensures.shelf.counts.faults.never_falls
    (as_viewed AskedBy StopsAsking c.new-asker.result _ _ _ _ _ _ _ (c.new-asker.ensures ∙ ap (λ (s : Settings). asker_by s c.in-Ok.world) c.settings_of.ensures) c.ask_log.ensures.says)

pub returns-in-Err-clause-ran : goal.returns-in-Err-clause-ran
returns-in-Err-clause-ran g c =
    inr (stopped World _ c.in-Err.stop _ _ _ _ _ _ _ _ _ _ _ c.in-Err.ensures.stopped c.in-Err.ensures.truly c.in-Err.ensures.cause c.end_at.ensures)
