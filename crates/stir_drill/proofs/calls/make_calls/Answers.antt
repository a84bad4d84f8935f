use Rattle.std.proofs.Common.{refl}
use Rattle.stir_drill.proofs.CallLaws.{none_yet}
use Rattle.stir_drill.proofs.calls.make_calls.Goals as goal

pub loop-before-init : goal.loop-before-init
loop-before-init c =
    none_yet c.args.seed (record { state = c.args.seed; log = c.in_ok-log.log; answers = c.args.answers; last = 0 }) refl c.in_ok-log.ensures.items
    c.requires.answers refl
