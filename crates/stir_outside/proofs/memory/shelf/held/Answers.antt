-- A byte is below 256.
use Rattle.std.proofs.Common.{sym, arith}
use Rattle.stir_outside.proofs.FileLaws.{same_bytes}
use Rattle.stir_outside.proofs.memory.shelf.held.Goals as goal

pub returns : goal.returns
returns c = sym (same_bytes c.args.content.now (λ i. let fits = c.type_inv.content i in omega (arith, fits)))
