use Rattle.std.proofs.Common.{rules, map}
use Rattle.clap.specs.Simple.{app_of}
use Rattle.stir_words.specs.Seen.{known_of, texts}
use Rattle.stir_words.proofs.ClapLaws.{found_here, refused_here}
use Rattle.stir_words.proofs.clap_options.parsed.Goals as goal

pub returns-in-Ok-try_get_matches_from : goal.returns-in-Ok-try_get_matches_from
returns-in-Ok-try_get_matches_from c =
    found_here (map known_of c.args.table.now) (app_of c.in-Ok.command) (texts c.args.words.now) c.in-Ok-try_get_matches_from.matches
    (search rules) c.in-Ok.ensures c.in-Ok-try_get_matches_from.ensures.kinds c.in-Ok-try_get_matches_from.ensures.matches

pub returns-in-Err : goal.returns-in-Err
returns-in-Err c =
    refused_here (map known_of c.args.table.now) (app_of c.in-Ok.command) (texts c.args.words.now) c.in-Err.error c.fault_of.result
    (search rules) c.in-Ok.ensures c.in-Err.ensures.kinds c.fault_of.ensures.memory
