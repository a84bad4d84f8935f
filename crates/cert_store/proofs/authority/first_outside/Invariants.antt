-- The certificates that are left give what all give.
use Rattle.std.proofs.Common.{◌≡◌, ◌+◌, drop}
use Rattle.cert_store.specs.Links.{links_from}
use Rattle.cert_store.specs.Rules.{first_outside}
use Rattle.cert_store.proofs.authority.first_outside.Given as goal

abbrev pub invariant-certificates : goal.invariant-certificates
invariant-certificates l =
    first_outside l.table (links_from (l.index + 1) (drop l.index l.chain) l.top) ≡ first_outside l.table (links_from 1 l.chain l.top)
