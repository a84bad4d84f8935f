use Rattle.std.proofs.Common.{◌≡◌, take}
use Rattle.std.specs.List.{filter_map}
use Rattle.delegation.specs.Gathered.{code_in}
use Rattle.delegation.proofs.gathering.codes_in.Given as goal

abbrev pub invariant-loop-entry : goal.invariant-loop-entry
invariant-loop-entry l = l.codes.items ≡ filter_map code_in (take l.entry-index l.entries)
