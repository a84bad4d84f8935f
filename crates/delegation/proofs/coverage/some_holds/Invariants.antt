use Rattle.std.proofs.Common.{drop}
use Rattle.tn_auth_list.specs.CodeTable.{SomeOf}
use Rattle.delegation.specs.Coverage.{In}
use Rattle.delegation.proofs.coverage.some_holds.Given as goal

-- an entry that holds the number is among those that are left
abbrev pub invariant-loop-entry : goal.invariant-loop-entry
invariant-loop-entry l = SomeOf (In l.table l.number) l.entries → SomeOf (In l.table l.number) (drop l.entry-index l.entries)
