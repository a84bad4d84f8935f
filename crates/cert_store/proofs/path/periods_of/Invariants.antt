-- The periods so far and those of the certificates that are left are those of all.
use Rattle.std.proofs.Common.{◌≡◌, ◌+◌, ◌++◌, drop}
use Rattle.cert_store.specs.Rules.{periods_from}
use Rattle.cert_store.proofs.path.periods_of.Given as goal

abbrev pub invariant-certificates : goal.invariant-certificates
invariant-certificates l =
    l.periods.items ++ periods_from l.anchors (l.index + 1) (drop l.index l.chain) ≡ periods_from l.anchors 1 l.chain
