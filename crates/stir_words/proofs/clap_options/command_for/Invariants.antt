use Rattle.std.proofs.Common.{◌≡◌, drop, map}
use Rattle.clap.specs.Simple.{app_of}
use Rattle.stir_words.specs.Seen.{known_of}
use Rattle.stir_words.specs.ClapRules.{app_for}
use Rattle.stir_words.proofs.ClapTable.{with_all}
use Rattle.stir_words.proofs.clap_options.command_for.Given as goal

-- with what is left of the table the command has the whole of it
abbrev pub invariant-loop-row : goal.invariant-loop-row
invariant-loop-row l = with_all (app_of l.command) (map known_of (drop l.row-index l.table)) ≡ app_for (map known_of l.table)
