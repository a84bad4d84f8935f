-- Each byte is one.
use Rattle.std.proofs.Common.{arith}
use Rattle.chain_lines.proofs.serial.are_bytes.Goals as goal

pub returns : goal.returns
returns c = λ i. omega (arith, c.type_inv.bytes i)
