-- One entry more.
use Rattle.std.proofs.Common.{refl, arith}
use Rattle.std.proofs.lemmas.List.{take_more}
use Rattle.verify_service.proofs.HandingLaws.{free_here, kept_next, stands}
use Rattle.verify_service.proofs.handover.add_kept.Goals as goal

pub add-requires-clause-free : goal.add-requires-clause-free
add-requires-clause-free c =
    free_here c.args.kept.now c.entries.index _ c.entries.past c.requires.rises (stands c.args.kept.now c.entries.index _ c.entries-test.true) c.entries.invariant.kept_so_far

pub entries-preserved : goal.entries-preserved
entries-preserved c = record {
  end = refl;
  kept_so_far = kept_next c.args.kept.now c.entries.index _ c.entries.past c.add.new.self c.requires.rises (stands c.args.kept.now c.entries.index _ c.entries-test.true)
      (take_more c.args.kept.now c.entries.index _ c.entries-test.true) c.entries.invariant.kept_so_far c.add.ensures.added c.add.ensures.others;
  room = omega (arith, c.entries.invariant.room, c.add.ensures.spare);
}
