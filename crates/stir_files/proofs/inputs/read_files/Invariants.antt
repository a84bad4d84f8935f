-- What comes of the files that are left comes of all, and each of those before was read once at most.
use Rattle.std.proofs.Common.{◌≡◌, ◌+◌, ◌≤◌, drop}
use Rattle.stir_outside.specs.Files.{CountsGoOn}
use Rattle.stir_files.proofs.ListSteps.{ReadsOn}
use Rattle.stir_files.proofs.inputs.read_files.Given as goal

abbrev pub invariant-loop-file : goal.invariant-loop-file
invariant-loop-file g l = record {
  same : g.S.Shelf.files l.shelf ≡ g.S.Shelf.files l.initial.shelf;
  go_on : CountsGoOn (g.S.Shelf.counts l.initial.shelf) (g.S.Shelf.counts l.shelf);
  reads : (g.S.Shelf.counts l.shelf).reads ≤ (g.S.Shelf.counts l.initial.shelf).reads + l.file-index;
  on : ReadsOn (g.S.Shelf.files l.initial.shelf) (drop l.file-index l.named) l.named l.inputs;
}
