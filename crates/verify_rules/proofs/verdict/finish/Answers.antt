-- A verdict over what is right is one of the world, and says of each rule what it means.
use Rattle.std.proofs.Common.{sym, subst}
use Rattle.verify_rules.specs.World.{AreRight}
use Rattle.verify_rules.proofs.WorldVerdict.{verdict_right}
use Rattle.verify_rules.proofs.verdict.finish.Goals as goal

pub returns-clause-right : goal.returns-clause-right
returns-clause-right g c = λ world call judged right.
    verdict_right c.judged_law.ensures.answered world call _ _ _ _ _ _ _ c.finish_exactly.result c.finish_exactly.ensures.verdict judged (subst (AreRight world c.args.screened.now.readings) (sym c.of-once.ensures) right)

pub returns-clause-words : goal.returns-clause-words
returns-clause-words g c = λ world call typed judged right.
    c.late_words_law.ensures world call c.finish_exactly.result typed judged.early
    (verdict_right c.judged_law.ensures.answered world call _ _ _ _ _ _ _ c.finish_exactly.result c.finish_exactly.ensures.verdict judged (subst (AreRight world c.args.screened.now.readings) (sym c.of-once.ensures) right))

pub returns-clause-places : goal.returns-clause-places
returns-clause-places g c = λ world call typed judged right.
    c.late_places_law.ensures world call c.finish_exactly.result typed judged.early
    (verdict_right c.judged_law.ensures.answered world call _ _ _ _ _ _ _ c.finish_exactly.result c.finish_exactly.ensures.verdict judged (subst (AreRight world c.args.screened.now.readings) (sym c.of-once.ensures) right))
