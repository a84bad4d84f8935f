use Rattle.std.proofs.Common.{◌≡◌, take}
use Rattle.std.specs.List.{fold}
use Rattle.delegation.specs.Gathered.{no_numbers, with_own}
use Rattle.delegation.proofs.gathering.gathered_own.Given as goal

abbrev pub invariant-loop-entry : goal.invariant-loop-entry
invariant-loop-entry l = l.gathered ≡ fold with_own no_numbers (take l.entry-index l.entries)
