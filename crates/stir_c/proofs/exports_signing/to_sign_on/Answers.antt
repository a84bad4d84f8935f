-- The handle is open.
use Rattle.std.proofs.Common.{rules}
use Rattle.stir_c.specs.Owned.{view_of_chain}
use Rattle.stir_c.proofs.SigningLaws.{to_sign_open}
use Rattle.stir_c.proofs.exports_signing.to_sign_on.Goals as goal

pub returns : goal.returns
returns c = to_sign_open _ _ (view_of_chain c.chain-chain.result.now) _ _ _ (search rules) (search rules) c.key_law.ensures c.told_digest-said.ensures
