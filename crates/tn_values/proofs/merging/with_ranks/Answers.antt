use Rattle.std.proofs.Common.{◌∙◌, Some, sym, arith}
use Rattle.std.proofs.lemmas.Grind.{common_steps}
use Rattle.tn_values.proofs.BuildLaws.{ones_more}
use Rattle.tn_values.proofs.merging.with_ranks.Goals as goal
use Rattle.tn_values.proofs.merging.with_ranks.Goals.{in-Some+in_ok-push, in_default}

pub loop-number-preserved : goal.loop-number-preserved
loop-number-preserved c =
    elim c.match-new.branch [
      | in-Some+in_ok-push w ↦
          let more = ones_more c.args.numbers.now c.loop-number.number-index c.number-item.result (Some w.in-Some.span) (omega arith) c.number-item.is
          (sym c.new.ensures ∙ w.in-Some.is) in
          grind (arith, common_steps)
      | in_default w ↦
          let more = ones_more c.args.numbers.now c.loop-number.number-index c.number-item.result c.new.result (omega arith) c.number-item.is
          (sym c.new.ensures) in
          grind (arith, common_steps)
    ]
