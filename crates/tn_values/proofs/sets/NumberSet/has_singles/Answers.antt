use Rattle.std.proofs.Common.{◌≡◌, true, arith}
use Rattle.std.proofs.lemmas.Grind.{common_steps}
use Rattle.tn_values.proofs.WithinLaws.{single_outside}
use Rattle.tn_values.proofs.sets.NumberSet.has_singles.Goals as goal

pub returns-then-not-has-clause-outside : goal.returns-then-not-has-clause-outside
returns-then-not-has-clause-outside c = λ _.
    single_outside c.args.singles.now c.args.self.now c.loop-single.single-index c.single-item.result
    (omega arith) c.single-item.is c.has.ensures.number
    (λ held. let had : c.has.result ≡ true = c.has.ensures.holds.1 held in grind (arith, common_steps))
