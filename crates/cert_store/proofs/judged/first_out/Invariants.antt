-- What is left gives what all give.
use Rattle.std.proofs.Common.{◌≡◌, drop}
use Rattle.cert_store.specs.Rules.{first_out}
use Rattle.cert_store.proofs.judged.first_out.Given as goal

abbrev pub invariant-loop-period : goal.invariant-loop-period
invariant-loop-period l = first_out l.moment (drop l.period-index l.periods) ≡ first_out l.moment l.periods
