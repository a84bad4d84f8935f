-- The certificates that are left give what all give, and each that was passed and isn't an anchor was asked for once.
use Rattle.std.proofs.Common.{◌≡◌, ◌+◌, ◌≤◌, drop, take, is_some}
use Rattle.std.specs.List.{count_by}
use Rattle.cert_store.specs.Asking.{RoseBy, first_refused}
use Rattle.cert_store.proofs.signatures.ask.Given as goal

abbrev pub invariant-certificates : goal.invariant-certificates
invariant-certificates g l = record {
  left : first_refused (g.P.Provider.says l.fn.provider) (l.index + 1) (drop l.index l.chain) (drop l.index l.keys)
      ≡ first_refused (g.P.Provider.says l.fn.provider) 1 l.chain l.keys;
  same_says : g.P.Provider.says l.provider ≡ g.P.Provider.says l.fn.provider;
  same_signs : g.P.Provider.signs l.provider ≡ g.P.Provider.signs l.fn.provider;
  asks : RoseBy (count_by is_some (take l.index l.keys)) (g.P.Provider.asks l.fn.provider) (g.P.Provider.asks l.provider);
  asks_most : g.P.Provider.asks l.provider ≤ g.P.Provider.asks l.fn.provider + l.index;
  faults_stay : g.P.Provider.faults l.fn.provider ≤ g.P.Provider.faults l.provider;
}
