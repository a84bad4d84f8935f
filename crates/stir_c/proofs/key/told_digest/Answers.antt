-- The key is that of the chain which is held.
use Rattle.std.proofs.Common.{rules, None}
use Rattle.open_calls.specs.Order.{given_of}
use Rattle.stir_c.specs.Keys.{key_in}
use Rattle.stir_c.specs.Owned.{view_of_chain}
use Rattle.stir_c.proofs.KeyLaws.{told_as}
use Rattle.stir_c.proofs.key.told_digest.Goals as goal

pub returns : goal.returns
returns c = told_as _ (key_in (view_of_chain c.args.held.now)) (given_of c.args.order.now) c.args.message.now None c.told_to_sign.result c.told_to_sign.ensures (search rules) (search rules) (search rules)
