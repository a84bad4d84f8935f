use Rattle.std.proofs.Common.{arith, refl}
use Rattle.delegation.specs.Coverage.{In}
use Rattle.delegation.proofs.Lists.{some_at}
use Rattle.delegation.proofs.coverage.some_holds.Goals as goal

pub returns-then-holds : goal.returns-then-holds
returns-then-holds c = (
  λ _. some_at (In c.args.table.now c.args.number.now) c.args.entries.now c.loop-entry.entry-index c.entry-item.result (omega arith) c.entry-item.is
      (c.holds.ensures.0 c.if-holds.true),
  λ _. refl,
)
