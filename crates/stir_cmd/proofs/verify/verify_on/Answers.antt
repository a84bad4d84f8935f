-- The files were read and the log was judged, or a file stopped it.
use Rattle.std.proofs.Common.{inr}
use Rattle.stir_files.specs.declared.going.GoingMaterials.{GoingMaterials}
use Rattle.stir_cmd.proofs.GoingSteps.{call_within, from_files, same_window}
use Rattle.stir_cmd.proofs.FewReadsLaws.{few_named_on, few_on}
use Rattle.stir_cmd.proofs.StopSteps.{stopped}
use Rattle.stir_words.specs.Seen.{verifying_view}
use Rattle.stir_cmd.proofs.verify.verify_on.Goals as goal

pub go_on_by-requires-clause-window : goal.go_on_by-requires-clause-window
go_on_by-requires-clause-window g c κs within = same_window _ (verifying_view c.args.verifying.now) c.args.name.now c.in-Ok.materials _ c.in-Ok.ensures.read c.settings_of.ensures

pub go_on_by-requires-clause-call : goal.go_on_by-requires-clause-call
go_on_by-requires-clause-call g c κs within = call_within _ (verifying_view c.args.verifying.now) c.args.name.now c.in-Ok.materials c.in-Ok.ensures.read

pub returns-in-Ok-clause-ran : goal.returns-in-Ok-clause-ran
returns-in-Ok-clause-ran g c =
    from_files (verifying_view c.args.verifying.now) c.args.name.now c.in-Ok.materials _ _ _ _ _ _ _ _ _ _ _ c.in-Ok.ensures.read c.in-Ok.ensures.truly c.read_going.ensures.same c.read_going.ensures.go_on
    c.read_going.ensures.reads c.settings_of.ensures c.go_on_by.ensures.shelf.counts.faults.never_falls c.go_on_by.ensures.ran

pub returns-in-Err-clause-ran : goal.returns-in-Err-clause-ran
returns-in-Err-clause-ran g c =
    inr (stopped GoingMaterials _ c.in-Err.stop _ _ _ _ _ _ _ _ _ _ _ c.in-Err.ensures.stopped c.in-Err.ensures.truly c.in-Err.ensures.cause c.end_at.ensures)

pub returns-in-Ok-clause-few_reads : goal.returns-in-Ok-clause-few_reads
returns-in-Ok-clause-few_reads g c =
    few_on c.one_log.ensures (verifying_view c.args.verifying.now) c.args.name.now _ _ _ _ c.in-Ok.materials c.in-Ok.ensures.read c.read_going.ensures.reads c.settings_of.ensures c.go_on_by.ensures.reads

pub returns-in-Err-clause-few_reads : goal.returns-in-Err-clause-few_reads
returns-in-Err-clause-few_reads g c = few_named_on (verifying_view c.args.verifying.now) c.args.name.now _ _ c.read_going.ensures.reads
