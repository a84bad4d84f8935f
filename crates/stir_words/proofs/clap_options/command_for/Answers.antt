use Rattle.std.proofs.Common.{arith, map}
use Rattle.std.proofs.lemmas.Grind.{common_steps}
use Rattle.clap.specs.Simple.{app_of}
use Rattle.clap.specs.Walk.{rule_of}
use Rattle.stir_words.specs.Seen.{known_of}
use Rattle.stir_words.specs.ClapRules.{app_for}
use Rattle.stir_words.proofs.ClapTable.{one_more}
use Rattle.stir_words.proofs.clap_options.command_for.Goals as goal

pub loop-row-preserved : goal.loop-row-preserved
loop-row-preserved c =
    one_more (app_of c.loop-row.command) (app_of c.in_ok-command.command) (app_for (map known_of c.args.table.now)) (rule_of c.arg_for.result) _ _
    (grind (arith, common_steps, c.loop-row.invariant)) (c.in_ok-command.ensures.shape c.arg_for.ensures.local) c.arg_for.ensures.rule
