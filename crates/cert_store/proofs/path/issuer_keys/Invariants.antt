-- The keys so far and those of the certificates that are left are those of all.
use Rattle.std.proofs.Common.{◌≡◌, ◌+◌, ◌++◌, drop, length}
use Rattle.cert_store.specs.Links.{links_from}
use Rattle.cert_store.specs.Rules.{keys_of}
use Rattle.cert_store.proofs.path.issuer_keys.Given as goal

abbrev pub invariant-certificates : goal.invariant-certificates
invariant-certificates l = record {
  all : l.keys.items ++ keys_of l.anchors (links_from (l.index + 1) (drop l.index l.chain) l.top) ≡ keys_of l.anchors (links_from 1 l.chain l.top);
  count : length l.keys.items ≡ l.index;
}
