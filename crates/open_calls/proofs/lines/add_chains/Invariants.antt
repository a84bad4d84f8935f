-- The questions of the chains so far are written.
use Rattle.std.proofs.Common.{◌≡◌, length}
use Rattle.open_calls.specs.OpenChains.{states_of}
use Rattle.open_calls.specs.Steps.{ChainsUpTo}
use Rattle.open_calls.proofs.lines.add_chains.Given as goal

abbrev pub invariant-chains : goal.invariant-chains
invariant-chains l = record {
  end : l.i-end ≡ length (states_of l.chains);
  so : ChainsUpTo (states_of l.chains) l.fn.text.items l.text.items l.i;
}
