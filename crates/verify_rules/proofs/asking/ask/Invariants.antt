-- The PASSporTs up to here are signed, what the provider says of those left is what it says of all, and each was asked for at most once.
use Rattle.std.proofs.Common.{◌≡◌, ◌+◌, ◌≤◌, drop, length, take, None}
use Rattle.verify_rules.specs.Late.{asking}
use Rattle.verify_rules.proofs.asking.ask.Given as goal

abbrev pub invariant-passports : goal.invariant-passports
invariant-passports g l = record {
  end : l.i-end ≡ length l.screened.readings;
  left : asking (g.P.Provider.says l.fn.provider) (drop l.i l.screened.readings) (drop l.i (g.C.Chains.states l.chains))
      ≡ asking (g.P.Provider.says l.fn.provider) l.screened.readings (g.C.Chains.states l.chains);
  front : asking (g.P.Provider.says l.fn.provider) (take l.i l.screened.readings) (take l.i (g.C.Chains.states l.chains)) ≡ None;
  same_says : g.P.Provider.says l.provider ≡ g.P.Provider.says l.fn.provider;
  same_signs : g.P.Provider.signs l.provider ≡ g.P.Provider.signs l.fn.provider;
  signs_nothing : g.P.Provider.sign_faults l.provider ≡ g.P.Provider.sign_faults l.fn.provider;
  asks : g.P.Provider.asks l.provider ≤ g.P.Provider.asks l.fn.provider + l.i;
  asks_stay : g.P.Provider.asks l.fn.provider ≤ g.P.Provider.asks l.provider;
  faults_stay : g.P.Provider.faults l.fn.provider ≤ g.P.Provider.faults l.provider;
}
