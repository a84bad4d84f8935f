-- The chains so far and those that are left are all.
use Rattle.std.proofs.Common.{◌≡◌, ◌++◌, drop, map}
use Rattle.std.specs.Arc.{arc_value}
use Rattle.std.specs.Option.{option_map}
use Rattle.stir_c.proofs.call_chains.opened.Given as goal

abbrev pub invariant-passports : goal.invariant-passports
invariant-passports l = l.chains ++ drop l.chain-index (map (option_map arc_value) l.given) ≡ map (option_map arc_value) l.given
