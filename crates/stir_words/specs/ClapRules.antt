-- How clap reads the options of a command (this project's own rule): what it is told of a table of options, and what it
-- finds.
use Rattle.std.specs.Prelude.{◌≡◌, true, false, List, [], map, codes, Some, Result, Ok, Err}
use Rattle.clap.specs.Matches.{first_value, found_of}
use Rattle.clap.specs.Simple.{App, new_rule, new_shape}
use Rattle.clap.specs.Walk.{Rule}
use Rattle.clap.specs.declared.builder.action.ArgAction.TheVariants.{Set}
use Rattle.clap.specs.declared.parser.matches.ArgMatches.{ArgMatches}
use Rattle.stir_words.specs.Options.{Pair}
use Rattle.stir_words.specs.Table.{Given, Known, accepts, given_by}
use Rattle.stir_words.specs.declared.fault.WordsFault.{WordsFault}
use Rattle.stir_words.specs.declared.fault.WordsFault.TheVariants.{Refused, Memory}

-- an option takes one value, and its name is its long name
abbrev pub rule_for : Known → Rule
rule_for known = record (new_rule known.name) { long = Some known.name; action = Some Set; required = known.required }

-- a command with these options: no name of a program comes before the words, and none of the options is for help
abbrev pub app_for : List Known → App
app_for table = record {
  top =
      record (new_shape (codes "stir")) { rules = map rule_for table; no_binary_name = true; disable_help_flag = true };
  subs = [];
}

-- the values that were found
abbrev pub values_in : ArgMatches → Given
values_in matches = first_value (found_of matches)

-- what was found are the values of these options, which the table accepts; or it doesn't accept them, or memory ran out
abbrev pub IsParsed : List Known → List Pair → Result ArgMatches WordsFault → Type 0
IsParsed table pairs (Ok matches) = (accepts table pairs ≡ true) × (values_in matches ≡ given_by pairs)
IsParsed table pairs (Err Refused) = accepts table pairs ≡ false
IsParsed table pairs (Err Memory) = Unit {0}
