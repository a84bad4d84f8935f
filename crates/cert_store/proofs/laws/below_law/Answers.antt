-- The laws of the crates below, put together.
use Rattle.cert_store.proofs.laws.below_law.Goals as goal

pub returns : goal.returns
returns c = record {
  chain_again = c.chain_law.ensures.again;
  chain_found = c.chain_law.ensures.found;
  chain_ends = c.chain_law.ensures.ends;
  chain_whole = c.chain_law.ensures.whole;
  path_again = c.path_law.ensures.again;
  path_found = c.path_law.ensures.found;
  path_refused = c.path_law.ensures.refused;
  within = c.within_law.ensures.decides;
}
