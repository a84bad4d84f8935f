-- The handle is open.
use Rattle.std.proofs.Common.{rules}
use Rattle.stir_c.specs.Owned.{view_of_chain}
use Rattle.stir_c.proofs.SigningLaws.{signed_open}
use Rattle.stir_c.proofs.exports_signing.signed_on.Goals as goal

pub returns : goal.returns
returns c =
    signed_open _ _ _ (view_of_chain c.chain-chain.result.now) _ _ _ _ c.signed_text-came.result _ (search rules) (search rules) c.key_law.ensures c.signed_text-came.ensures.signed
    c.signed_text-came.ensures.unsigned c.told_message.ensures
