-- A batch joins those before it.
use Rattle.std.proofs.Common.{Ok, refl, ◌∙◌, ap}
use Rattle.log_run.proofs.JoinLaws.{on_joined, out_joined}
use Rattle.log_run.proofs.RunLaws.{on_none}
use Rattle.log_run.proofs.StaysLaws.{shelf_stands, shelf_stays_on}
use Rattle.log_run.proofs.batches.run_batches.Goals as goal

pub batches-init : goal.batches-init
batches-init g c = record { runs = on_none _ _ _ _ c.requires.first; reads_on = c.requires.reads_on; stands = c.requires.stands; most = refl; ends = λ right. right; shelf = shelf_stands _ _ }

pub batches-preserved : goal.batches-preserved
batches-preserved g c =
    let ran = rw c.in-Ok-More.field-0-is at c.in-Ok-More.ensures.ran in
    record {
      runs = on_joined g.C.LogCommand.behind _ _ _ _ _ _ _ _ _ _ _ _ _ _ _ _ c.batches.invariant.most c.batches.invariant.shelf.files c.batches.invariant.runs ran;
      reads_on = c.in-Ok-More.ensures.reads_on (ap Ok c.in-Ok-More.field-0-is);
      stands = c.in-Ok-More.ensures.stands (ap Ok c.in-Ok-More.field-0-is);
      most = c.in-Ok-More.ensures.same_most ∙ c.batches.invariant.most;
      ends = λ right. c.in-Ok-More.ensures.ends (c.batches.invariant.ends right);
      shelf = shelf_stays_on _ _ _ _ c.batches.invariant.shelf c.in-Ok-More.ensures.shelf;
    }

pub returns-in-Ok-Whole-clause-ran : goal.returns-in-Ok-Whole-clause-ran
returns-in-Ok-Whole-clause-ran g c =
    let ran = rw c.in-Ok-Whole.field-0-is at c.in-Ok-Whole.ensures.ran in
    out_joined g.C.LogCommand.behind g.C.LogCommand.stopped _ _ _ _ _ _ _ _ _ _ _ _ _ _ _ _ _ c.in-Ok-Whole.ensures.some c.batches.invariant.most c.batches.invariant.shelf.files c.batches.invariant.runs ran

pub returns-in-Ok-Fault-clause-ran : goal.returns-in-Ok-Fault-clause-ran
returns-in-Ok-Fault-clause-ran g c =
    let ran = rw c.in-Ok-Fault.field-0-is at c.in-Ok-Fault.ensures.ran in
    out_joined g.C.LogCommand.behind g.C.LogCommand.stopped _ _ _ _ _ _ _ _ _ _ _ _ _ _ _ _ _ c.in-Ok-Fault.ensures.some c.batches.invariant.most c.batches.invariant.shelf.files c.batches.invariant.runs ran

pub returns-in-Err-clause-ran : goal.returns-in-Err-clause-ran
returns-in-Err-clause-ran g c =
    out_joined g.C.LogCommand.behind g.C.LogCommand.stopped _ _ _ _ _ _ _ _ _ _ _ _ _ _ _ _ _ c.in-Err.ensures.some c.batches.invariant.most c.batches.invariant.shelf.files c.batches.invariant.runs c.in-Err.ensures.ran

pub returns-in-Ok-Whole-clause-shelf : goal.returns-in-Ok-Whole-clause-shelf
returns-in-Ok-Whole-clause-shelf g c = shelf_stays_on _ _ _ _ c.batches.invariant.shelf c.in-Ok-Whole.ensures.shelf

pub returns-in-Ok-Fault-clause-shelf : goal.returns-in-Ok-Fault-clause-shelf
returns-in-Ok-Fault-clause-shelf g c = shelf_stays_on _ _ _ _ c.batches.invariant.shelf c.in-Ok-Fault.ensures.shelf

pub returns-in-Err-clause-shelf : goal.returns-in-Err-clause-shelf
returns-in-Err-clause-shelf g c = shelf_stays_on _ _ _ _ c.batches.invariant.shelf c.in-Err.ensures.shelf
