-- A file was read, or can't be had, or all were read.
use Rattle.std.proofs.Common.{◌∙◌, arith}
use Rattle.stir_outside.proofs.CountLaws.{go_on}
use Rattle.stir_files.specs.Inputs.{files_named}
use Rattle.stir_files.specs.declared.inputs.Inputs.{Inputs}
use Rattle.stir_files.proofs.FileSteps.{adds_then, says_then}
use Rattle.stir_files.proofs.FirstFault.{truly_read, truly_stopped}
use Rattle.stir_files.proofs.ListSteps.{all_held, all_read, of_these, read_item, refused_item}
use Rattle.stir_files.proofs.inputs.read_files.Goals as goal

pub loop-file-preserved : goal.loop-file-preserved
loop-file-preserved g c =
    let before = c.loop-file.invariant in
    let next = c.read_next.ensures in
    record {
      same = next.same ∙ before.same;
      go_on = go_on _ _ _ before.go_on next.go_on;
      reads = omega arith;
      on = read_item _ c.args.named.now c.loop-file.file-index c.file-item.result _ _ c.loop-file-test.true c.file-item.is before.on (adds_then _ _ _ _ _ before.same c.in-Ok.ensures.read);
    }

pub returns-in-Err-clause-stopped : goal.returns-in-Err-clause-stopped
returns-in-Err-clause-stopped g c =
    let before = c.loop-file.invariant in
    refused_item _ c.args.named.now c.loop-file.file-index c.file-item.result _ _ _ c.loop-file-test.true c.file-item.is before.on c.name.ensures (says_then _ _ _ _ before.same c.in-Err.ensures.fault)

pub returns-in-Err-clause-truly : goal.returns-in-Err-clause-truly
returns-in-Err-clause-truly g c =
    let before = c.loop-file.invariant in
    truly_stopped Inputs _ (files_named c.args.named.now) (record { name = c.name.result; fault = c.in-Err.fault })
    (refused_item _ c.args.named.now c.loop-file.file-index c.file-item.result _ _ _ c.loop-file-test.true c.file-item.is before.on c.name.ensures (says_then _ _ _ _ before.same c.in-Err.ensures.fault))

pub returns-clause-read : goal.returns-clause-read
returns-clause-read g c =
    all_held _ c.args.named.now _ _ c.requires.differ (all_read _ _ c.loop-file.file-index _ c.loop-file-test.false c.loop-file.invariant.on)

pub returns-clause-only : goal.returns-clause-only
returns-clause-only g c = of_these _ c.args.named.now _ (all_read _ _ c.loop-file.file-index _ c.loop-file-test.false c.loop-file.invariant.on)

pub returns-clause-truly : goal.returns-clause-truly
returns-clause-truly g c =
    truly_read _ c.args.named.now _ (all_held _ c.args.named.now _ _ c.requires.differ (all_read _ _ c.loop-file.file-index _ c.loop-file-test.false c.loop-file.invariant.on))
