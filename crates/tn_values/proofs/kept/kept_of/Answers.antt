use Rattle.std.proofs.Common.{arith, not}
use Rattle.std.proofs.lemmas.Grind.{common_steps}
use Rattle.tn_values.specs.Canon.{is_separator}
use Rattle.tn_values.proofs.KeptFacts.{front_and_one}
use Rattle.tn_values.proofs.kept.kept_of.Goals as goal

pub returns-then-is_full : goal.returns-then-is_full
returns-then-is_full c =
    grind (arith, common_steps, front_and_one (λ byte. not (is_separator byte)) c.args.text.now c.loop-byte.byte-index)
