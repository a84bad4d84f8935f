-- The key is that of the chain which is held.
use Rattle.std.proofs.Common.{rules}
use Rattle.open_calls.specs.Order.{given_of}
use Rattle.stir_c.specs.Keys.{key_in}
use Rattle.stir_c.specs.Owned.{view_of_chain}
use Rattle.stir_c.proofs.KeyLaws.{unsigned_as}
use Rattle.stir_c.proofs.key.signed_text.Goals as goal

pub returns-in-Err-clause-unsigned : goal.returns-in-Err-clause-unsigned
returns-in-Err-clause-unsigned c = unsigned_as _ (key_in (view_of_chain c.args.held.now)) (given_of c.args.order.now) c.args.message.now c.args.signature.now c.in-Err.unsigned c.in-Err.ensures.unsigned (search rules) (search rules) (search rules)
